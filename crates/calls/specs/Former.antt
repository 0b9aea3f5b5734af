-- The three points of a good table in document 01's words: every signal counts from the minute after it is given on,
-- and every event happens in every case. They stand beside `Solution` so that a reader sees what the sections of
-- reactions and of cases left as it was: of a network whose reactions are 1 and whose events have no labels these are
-- the good tables, and of a bad one this is the first breach (`plain` and `plain_first` in `Demands`).
use Rattle.std.specs.Prelude.{◌≡◌, ◌↔◌, true, false, List, ℕ, ◌≤◌, ◌<◌, length}
use Rattle.network.specs.Limits as L
use Rattle.network.specs.Build.{no_label, observation, event_label, constraint, scenarios, cells}
use Rattle.network.specs.Scenario.{agree, satisfies}
use Rattle.network.specs.Happens.{happens}
use Rattle.network.specs.Constraint.{admits}
use Rattle.network.specs.Strategy.{time, reaction}
use Rattle.network.specs.Solution.{OnTime, Holds, Alike}
use Rattle.network.specs.declared.Constraint.{Constraint}
use Rattle.network.specs.declared.Network.{Network}
use Rattle.checker.specs.First.{FirstOf}
use Rattle.checker.specs.declared.Breach.{Breach}

-- every signal has the reaction 1, and no event a label
abbrev pub Prompt : Network → Type 0
Prompt Γ = (p : ℕ) → p < Γ.signals → reaction Γ p ≡ L.fastest

abbrev pub Unlabelled : Network → Type 0
Unlabelled Γ = (u : ℕ) → event_label Γ u ≡ no_label

module _ (Γ : Network) (σ : List ℕ) where
  abbrev at : ℕ → ℕ → ℕ
  at s u = time Γ.events σ s u

  -- "no signal on which s and r differ has its event, in s, at a minute less than" m
  abbrev pub NoneBefore : ℕ → ℕ → ℕ → Type 0
  NoneBefore s r m = (p : ℕ) → p < Γ.signals → agree s r p ≡ false → at s (observation Γ p) < m → ⊥

  -- point 1 in one cell: "Each minute is at most H, and the start is at minute 0"
  pub record FormerOnTime (s u : ℕ) : Type 0 where
    pub in_horizon : at s u ≤ Γ.horizon
    pub origin : u ≡ 0 → at s u ≡ 0

  -- the rule keeps its limit in s
  abbrev pub KeptIn : ℕ → Constraint → Type 0
  KeptIn s c = admits c.kind (at s c.from) (at s c.to) c.bound ≡ true

  -- point 2 for one rule and case: it "holds in each case that agrees with its label"
  abbrev pub FormerHolds : ℕ → ℕ → Type 0
  FormerHolds s c = satisfies s (constraint Γ c).label ≡ true → KeptIn s (constraint Γ c)

  -- point 3 for two cases and an event: "then u has the same minute in s and in r"
  abbrev pub FormerAlike : ℕ → ℕ → ℕ → Type 0
  FormerAlike s r u = NoneBefore s r (at s u) → at s u ≡ at r u

  -- a good table, point by point
  pub record Former : Type 0 where
    pub sized : length σ ≡ cells Γ
    pub on_time : (s u : ℕ) → s < scenarios Γ → u < Γ.events → FormerOnTime s u
    pub viable : (s c : ℕ) → s < scenarios Γ → c < Γ.rules → FormerHolds s c
    pub dynamic : (s r u : ℕ) → s < scenarios Γ → r < scenarios Γ → u < Γ.events → FormerAlike s r u

  -- the first breach of these points
  abbrev pub FormerFirst : Breach → Type 0
  FormerFirst b = FirstOf Γ FormerOnTime FormerHolds FormerAlike b

  -- today's points are these, one by one, and every event happens in every case
  pub record PlainPoints : Type 0 where
    pub everywhere : (s u : ℕ) → happens Γ s u ≡ true
    pub on_time : (s u : ℕ) → OnTime Γ σ s u ↔ FormerOnTime s u
    pub holds : (s c : ℕ) → Holds Γ σ s (constraint Γ c) ↔ FormerHolds s c
    pub alike : (s r u : ℕ) → Alike Γ σ s r u ↔ FormerAlike s r u
