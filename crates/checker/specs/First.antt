-- What it means that a breach is the first, said of the points themselves and of no search: the points are tried in
-- their order, each by cases and then events or rules, and the first breach ends the search.
use Rattle.std.specs.Prelude.{◌≡◌, ◌⊎◌, List, ℕ, ◌<◌}
use Rattle.network.specs.Build.{constraint, scenarios}
use Rattle.network.specs.Solution.{OnTime, Holds, Alike}
use Rattle.network.specs.declared.Network.{Network}
use Rattle.checker.specs.declared.Breach.{Breach}
use Rattle.checker.specs.declared.Breach.TheVariants.{Late, Rule, Unheard}

-- the pair a, b stands before the pair c, d
abbrev pub Before : ℕ → ℕ → ℕ → ℕ → Type 0
Before a b c d = (a < c) ⊎ ((a ≡ c) × (b < d))

-- of any three points: point 1 of a scenario and an event, point 2 of a scenario and a constraint's place, point 3 of
-- two scenarios and an event
module _ (Γ : Network) (Point1 Point2 : ℕ → ℕ → Type 0) (Point3 : ℕ → ℕ → ℕ → Type 0) where
  -- cell s, u breaks point 1, and no cell before it does
  pub record FirstLate (s u : ℕ) : Type 0 where
    pub scenario : s < scenarios Γ
    pub event : u < Γ.events
    pub breaks : Point1 s u → ⊥
    pub before : (t v : ℕ) → t < scenarios Γ → v < Γ.events → Before t v s u → Point1 t v

  -- point 1 holds; constraint c fails in s, and none before it does
  pub record FirstRule (s c : ℕ) : Type 0 where
    pub scenario : s < scenarios Γ
    pub place : c < Γ.rules
    pub breaks : Point2 s c → ⊥
    pub before : (t d : ℕ) → t < scenarios Γ → d < Γ.rules → Before t d s c → Point2 t d
    pub on_time : (t v : ℕ) → t < scenarios Γ → v < Γ.events → Point1 t v

  -- points 1 and 2 hold; u tells s from r too soon, and no event of two scenarios before them does
  pub record FirstUnheard (s r u : ℕ) : Type 0 where
    pub scenario : s < scenarios Γ
    pub other : r < scenarios Γ
    pub event : u < Γ.events
    pub breaks : Point3 s r u → ⊥
    pub before : (t q v : ℕ) → t < scenarios Γ → q < scenarios Γ → v < Γ.events
        → (t < s) ⊎ ((t ≡ s) × Before q v r u) → Point3 t q v
    pub on_time : (t v : ℕ) → t < scenarios Γ → v < Γ.events → Point1 t v
    pub viable : (t d : ℕ) → t < scenarios Γ → d < Γ.rules → Point2 t d

  -- b is the first breach of these points
  abbrev pub FirstOf : Breach → Type 0
  FirstOf (Late s u) = FirstLate s u
  FirstOf (Rule s c) = FirstRule s c
  FirstOf (Unheard s r u) = FirstUnheard s r u

-- b is the first breach of a good table's points
abbrev pub First : Network → List ℕ → Breach → Type 0
First Γ σ b = FirstOf Γ (OnTime Γ σ) (λ s c. Holds Γ σ s (constraint Γ c)) (Alike Γ σ) b
