-- Which strategies solve a network: document 01's good tables, points 1 to 3, with the reactions of 02, point 3, and
-- the events of point 6 that only some cases have.
use Rattle.std.specs.Prelude.{◌≡◌, true, false, List, ℕ, ◌≤◌, ◌<◌, length}
use Rattle.network.specs.Limits as L
use Rattle.network.specs.Build.{constraint, event_label, scenarios, cells}
use Rattle.network.specs.Scenario.{agree}
use Rattle.network.specs.Happens.{mentions, happens}
use Rattle.network.specs.Constraint.{covers, admits}
use Rattle.network.specs.Strategy.{time, known_from, known}
use Rattle.network.specs.declared.Network.{Network}
use Rattle.network.specs.declared.Constraint.{Constraint}

module _ (Γ : Network) (σ : List ℕ) where
  -- the time of u in s
  abbrev at : ℕ → ℕ → ℕ
  at s u = time Γ.events σ s u

  -- "An event comes no sooner than each signal in its label plus that signal's reaction": by number, whatever the cell
  -- of the signal's event holds
  pub record Waits (s u : ℕ) : Type 0 where
    pub waited : (p : ℕ) → p < Γ.signals → mentions (event_label Γ u) p ≡ true → known_from Γ σ s p ≤ at s u

  -- point 1, for an event that happens: "Each minute is at most H, and the start is at minute 0"
  pub record Placed (s u : ℕ) : Type 0 where
    pub in_horizon : at s u ≤ Γ.horizon
    pub origin : u ≡ 0 → at s u ≡ 0
    pub waits : Waits s u

  -- point 1, for one cell: "A cell without its event holds 65,535"
  pub record OnTime (s u : ℕ) : Type 0 where
    pub absent : happens Γ s u ≡ false → at s u ≡ L.blank
    pub placed : happens Γ s u ≡ true → Placed s u

  -- point 2, for one rule and case: it "holds in each case that agrees with its label" (004, Definition 8: viable)
  pub record Holds (s : ℕ) (c : Constraint) : Type 0 where
    pub holds : covers Γ c s ≡ true → admits c.kind (at s c.from) (at s c.to) c.bound ≡ true

  -- in s, nothing on which s and r differ is known at the minute m
  pub record Indistinct (s r m : ℕ) : Type 0 where
    pub unknown : (p : ℕ) → p < Γ.signals → agree s r p ≡ false → known Γ σ s p m ≡ false

  -- point 3, for one event and two cases (004, Lemma 1: dynamic); it "compares only events that happen in both cases"
  pub record Alike (s r u : ℕ) : Type 0 where
    pub alike : happens Γ s u ≡ true → happens Γ r u ≡ true → Indistinct s r (at s u) → at s u ≡ at r u

  -- a good table
  pub record Solution : Type 0 where
    pub sized : length σ ≡ cells Γ
    pub on_time : (s u : ℕ) → s < scenarios Γ → u < Γ.events → OnTime s u
    pub viable : (s c : ℕ) → s < scenarios Γ → c < Γ.rules → Holds s (constraint Γ c)
    pub dynamic : (s r u : ℕ) → s < scenarios Γ → r < scenarios Γ → u < Γ.events → Alike s r u
