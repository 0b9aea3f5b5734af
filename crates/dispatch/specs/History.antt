-- What a case has heard before a minute (004, Definition 7: the scenario history).
use Rattle.std.specs.Prelude.{◌≡◌, ◌↔◌, Bool, true, cond, List, ℕ, ◌<◌, Option, Some, None}
use Rattle.prelude.specs.Lists.{In, Distinct}
use Rattle.network.specs.Build.{letter}
use Rattle.network.specs.Scenario.{truth}
use Rattle.network.specs.Strategy.{known}
use Rattle.network.specs.declared.Network.{Network}
use Rattle.dispatch.specs.Heard.{letters_of, no_heard, records_of}
use Rattle.dispatch.specs.declared.Heard.{Heard}

module _ (Γ : Network) (σ : List ℕ) (m : ℕ) where
  -- s has heard h: the letter of a signal that is known, as point 3 of a good table has it, with the truth that it
  -- has in s
  pub record Hears (s : ℕ) (h : Heard) : Type 0 where
    pub signal : ℕ
    pub below : signal < Γ.signals
    pub named : letter Γ signal ≡ h.letter
    pub heard : known Γ σ s signal m ≡ true
    pub told : truth s signal ≡ h.truth

  -- the truth of the signal p, where s has heard it
  abbrev pub known_truth : ℕ → ℕ → Option Bool
  known_truth s p = cond (known Γ σ s p m) (Some (truth s p)) None

  -- the list is, "in any order, exactly what" the case s "has heard before the minute"
  pub record History (hs : List Heard) (s : ℕ) : Type 0 where
    pub once : Distinct (letters_of hs) 0
    pub exact : (h : Heard) → In h hs no_heard ↔ Hears s h

  -- the list of it in the order of the signals
  abbrev pub history_of : ℕ → List Heard
  history_of s = records_of Γ (λ p. known Γ σ s p m) (truth s)
