-- The verdict on a strategy: "Points 1, 2, 3 are tried in that order, and the first breach ends the search" (01, The
-- judge's verdict).
use Rattle.std.specs.Prelude.{Bool, ◌&&◌, ◌||◌, not, cond, List, ℕ, eqb, leb}
use Rattle.std.proofs.Math.Option.{Option, none, some}
use Rattle.prelude.specs.Search.{or_else, first_below, unless}
use Rattle.prelude.specs.Bounded.{all_below}
use Rattle.network.specs.Limits as L
use Rattle.network.specs.Build.{event_label, constraint, scenarios}
use Rattle.network.specs.Scenario.{agree}
use Rattle.network.specs.Happens.{mentions, happens}
use Rattle.network.specs.Constraint.{covers, admits}
use Rattle.network.specs.Strategy.{time, known_from, known}
use Rattle.network.specs.declared.Constraint.{Constraint}
use Rattle.network.specs.declared.Network.{Network}
use Rattle.checker.specs.declared.Breach.{Breach}
use Rattle.checker.specs.declared.Breach.TheVariants.{Late, Rule, Unheard}
use Rattle.checker.specs.declared.Verdict.{Verdict}
use Rattle.checker.specs.declared.Verdict.TheVariants.{Pass, Breach as Breached}

module _ (Γ : Network) (σ : List ℕ) where
  abbrev at : ℕ → ℕ → ℕ
  at s u = time Γ.events σ s u

  -- u comes in s no sooner than each signal of its label plus that signal's reaction (02, point 6), by number: a
  -- giver's cell that is blank counts as 65,535
  abbrev pub does_wait : ℕ → ℕ → Bool
  does_wait s u = all_below Γ.signals (λ p. not (mentions (event_label Γ u) p) || leb (known_from Γ σ s p) (at s u))

  -- the cell of an event that happens: within the horizon, 0 for the start, and not before what its label waits for
  abbrev pub is_placed : ℕ → ℕ → Bool
  is_placed s u = (leb (at s u) Γ.horizon && (not (eqb u 0) || eqb (at s u) 0)) && does_wait s u

  -- point 1 in one cell: "a cell wrongly filled, wrongly blank or sooner than its label's signals allow" breaks it too
  abbrev pub is_on_time : ℕ → ℕ → Bool
  is_on_time s u = cond (happens Γ s u) (is_placed s u) (eqb (at s u) L.blank)

  -- point 2 for one constraint in one scenario
  abbrev pub does_hold : ℕ → Constraint → Bool
  does_hold s c = not (covers Γ c s) || admits c.kind (at s c.from) (at s c.to) c.bound

  -- nothing on which s and r differ is known in s at the time of u
  abbrev pub is_indistinct : ℕ → ℕ → ℕ → Bool
  is_indistinct s r u = all_below Γ.signals (λ p. agree s r p || not (known Γ σ s p (at s u)))

  -- point 3 for one event and two scenarios, of which it "compares only events that happen in both"
  abbrev pub is_alike : ℕ → ℕ → ℕ → Bool
  is_alike s r u = not (happens Γ s u && happens Γ r u) || (not (is_indistinct s r u) || eqb (at s u) (at r u))

  -- "the lowest cell, by case and then event"
  abbrev pub late_in : ℕ → Option Breach
  late_in s = first_below Γ.events (λ u. unless (is_on_time s u) (Late s u))

  abbrev pub first_late_lem : Option Breach
  first_late_lem = first_below (scenarios Γ) late_in

  -- "by case and then rule"
  abbrev pub broken_in : ℕ → Option Breach
  broken_in s = first_below Γ.rules (λ c. unless (does_hold s (constraint Γ c)) (Rule s c))

  abbrev pub first_broken_lem : Option Breach
  first_broken_lem = first_below (scenarios Γ) broken_in

  -- "the cases s, r and the event u, in that order of search"
  abbrev pub unheard_in : ℕ → ℕ → Option Breach
  unheard_in s r = first_below Γ.events (λ u. unless (is_alike s r u) (Unheard s r u))

  abbrev pub unheard_from : ℕ → Option Breach
  unheard_from s = first_below (scenarios Γ) (unheard_in s)

  abbrev pub first_unheard_lem : Option Breach
  first_unheard_lem = first_below (scenarios Γ) unheard_from

  -- the first breach, if there is one
  abbrev pub first_breach : Option Breach
  first_breach = or_else first_late_lem (or_else first_broken_lem first_unheard_lem)

-- the verdict with that breach, or with none
abbrev pub verdict_of : Option Breach → Verdict
verdict_of none = Pass
verdict_of (some b) = Breached b

unfoldable pub verdict : Network → List ℕ → Verdict
verdict Γ σ = verdict_of (first_breach Γ σ)
