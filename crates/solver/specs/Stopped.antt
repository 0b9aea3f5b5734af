-- A run that is stopped after n rounds: when it is, the floor that it hands out, what is left, and what is known of
-- that floor.
use Rattle.std.specs.Prelude.{◌≡◌, Bool, cond, List, ℕ, ◌+◌, ◌-◌, ◌/◌, ◌%◌, ◌≤◌, ltb, get_or}
use Rattle.prelude.specs.Bounded.{sum_below}
use Rattle.fixpoint.specs.Iterate.{iterate}
use Rattle.fixpoint.specs.Takes.{GoesOn}
use Rattle.network.specs.Limits as L
use Rattle.network.specs.Build.{cells}
use Rattle.network.specs.Solution.{Solution}
use Rattle.network.specs.Least.{NoLater}
use Rattle.network.specs.declared.Network.{Network}
use Rattle.rounds.specs.Propagate.{propagate}
use Rattle.rounds.specs.Cap.{fixed, cap}
use Rattle.solver.specs.Masked.{masked}
use Rattle.solver.specs.Solve.{floor, solve}
use Rattle.solver.specs.Rounds.{TakesRounds}

module _ (Γ : Network) where
  -- n rounds are fewer than the run makes
  unfoldable pub stops : ℕ → Bool
  stops n = ltb n (solve Γ).rounds

  -- n rounds do not finish: each raises a cell, and none passes a limit
  abbrev pub Unfinished : ℕ → Type 0
  Unfinished n = GoesOn (propagate Γ) (cap Γ) (floor Γ) n

  -- the table that n rounds make of all zeros, one after another, with blanks as a good table has them
  abbrev pub floor_after : ℕ → List ℕ
  floor_after n = masked Γ L.blank (iterate n (propagate Γ) (floor Γ))

  -- what is left: the sum, over happening cells other than the start's, of the horizon minus the floor
  abbrev pub left : List ℕ → ℕ
  left σ = sum_below (cells Γ) (λ i. cond (fixed Γ (i / Γ.events) (i % Γ.events)) 0 (Γ.horizon - get_or σ i 0))

  -- what is known of the table σ that is reached by n rounds which do not finish
  pub record FloorAfter (n : ℕ) (σ : List ℕ) : Type 0 where
    pub unfinished : Unfinished n
    pub reached : σ ≡ floor_after n
    -- no good table has any event earlier
    pub below : (τ : List ℕ) → Solution Γ τ → NoLater Γ σ τ
    -- at most as many rounds remain as are left, and one more
    pub remaining : (k : ℕ) → TakesRounds Γ k → k ≤ n + (left σ + 1)
