-- What is due at a minute, by what has been heard before it (02, point 1; with reactions, point 3, and events that only
-- some cases have, point 6).
use Rattle.std.specs.Prelude.{Bool, true, false, ◌&&◌, cond, List, ℕ, ◌^◌, eqb, Result, Ok, Err}
use Rattle.std.specs.Bool.{beq}
use Rattle.std.proofs.Math.Option.{Option, none, some}
use Rattle.prelude.specs.Search.{first_below, when}
use Rattle.prelude.specs.Bounded.{all_below, sum_below}
use Rattle.network.specs.Build.{letter, scenarios}
use Rattle.network.specs.Scenario.{truth}
use Rattle.network.specs.Happens.{happens}
use Rattle.network.specs.Strategy.{time, known}
use Rattle.network.specs.declared.Network.{Network}
use Rattle.dispatch.specs.Heard.{is_well_named, says}
use Rattle.dispatch.specs.declared.Heard.{Heard}
use Rattle.dispatch.specs.declared.Unanswered.{Unanswered}
use Rattle.dispatch.specs.declared.Unanswered.TheVariants.{Misnamed, NeverHeard}

module _ (Γ : Network) (σ : List ℕ) (m : ℕ) where
  -- whether event u is due in s: it happens there, and m is its minute. A cell without its event "is never due" (02,
  -- point 6), not even at the minute 65,535, which it holds
  abbrev pub is_due_lem : ℕ → ℕ → Bool
  is_due_lem s u = happens Γ s u && eqb (time Γ.events σ s u) m

  -- "the events due at that minute" in s: bit u for event u
  abbrev pub due_in_lem : ℕ → ℕ
  due_in_lem s = sum_below Γ.events (λ u. cond (is_due_lem s u) (2 ^ u) 0)

  -- whether s has heard that the signal p is v; where its event does not happen it is "never heard" (`known`)
  abbrev pub hears : ℕ → ℕ → Bool → Bool
  hears s p v = known Γ σ s p m && beq (truth s p) v

  -- whether what is said of signal p is what s has heard of it
  abbrev pub as_heard : (ℕ → Bool → Bool) → ℕ → ℕ → Bool
  as_heard said s p =
      beq (said (letter Γ p) true) (hears s p true) && beq (said (letter Γ p) false) (hears s p false)

  -- whether s has heard exactly what is said
  abbrev pub has_heard_lem : (ℕ → Bool → Bool) → ℕ → Bool
  has_heard_lem said s = all_below Γ.signals (as_heard said s)

  -- the first case that has
  abbrev pub hearer : (ℕ → Bool → Bool) → Option ℕ
  hearer said = first_below (scenarios Γ) (λ s. when (has_heard_lem said s) s)

  -- what is due in that case; in a good table any other that has heard the same has the same due
  -- (`dispatch/proofs/Alike.antt`)
  abbrev pub due_for : Option ℕ → Result ℕ Unanswered
  due_for none = Err NeverHeard
  due_for (some s) = Ok (due_in_lem s)

  -- 15 is tried before 16
  abbrev pub due_by : Bool → (ℕ → Bool → Bool) → Result ℕ Unanswered
  due_by named said = cond named (due_for (hearer said)) (Err Misnamed)

  -- what is due for those who have heard the list
  unfoldable pub due : List Heard → Result ℕ Unanswered
  due hs = due_by (is_well_named Γ hs) (says hs)
