-- How long a network can keep the solver: how many rounds it takes from all zeros until one raises nothing or passes a
-- limit, that one included; and how many that are at most.
use Rattle.std.specs.Prelude.{cond, ℕ, ◌+◌, ◌*◌, ◌/◌, ◌%◌, ◌≤◌}
use Rattle.prelude.specs.Bounded.{sum_below}
use Rattle.fixpoint.specs.Takes.{Takes}
use Rattle.network.specs.Build.{cells}
use Rattle.network.specs.declared.Network.{Network}
use Rattle.rounds.specs.Propagate.{propagate}
use Rattle.rounds.specs.Cap.{fixed, cap}
use Rattle.solver.specs.Solve.{floor}

module _ (Γ : Network) where
  -- so many rounds
  abbrev pub TakesRounds : ℕ → Type 0
  TakesRounds k = Takes (propagate Γ) (cap Γ) (floor Γ) k

  -- C, the happening cells other than the start's: no other ever moves
  abbrev pub moving : ℕ
  moving = sum_below (cells Γ) (λ i. cond (fixed Γ (i / Γ.events) (i % Γ.events)) 0 1)

  -- k is this count, and it is from 1 to C × H + 1
  pub record Counted (k : ℕ) : Type 0 where
    pub takes : TakesRounds k
    pub some : 1 ≤ k
    pub most : k ≤ moving * Γ.horizon + 1
