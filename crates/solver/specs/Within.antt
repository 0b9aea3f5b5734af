-- What the solver answers that makes at most n rounds, and what it leaves in the lent table: the same as without a
-- budget where n rounds are enough, and otherwise the floor that they reach.
use Rattle.std.specs.Prelude.{◌≡◌, cond, ℕ, List, ◌++◌, length, drop, Result, Ok, Err}
use Rattle.network.specs.declared.Network.{Network}
use Rattle.solver.specs.declared.Inconsistent.{Inconsistent}
use Rattle.solver.specs.declared.Outcome.{Outcome}
use Rattle.solver.specs.declared.Outcome.TheVariants.{Finished, Stopped}
use Rattle.solver.specs.Solve.{solve}
use Rattle.solver.specs.Stopped.{stops, floor_after, left}
use Rattle.solver.specs.Solved.{solved_of, table_after}

abbrev pub finished : Result ℕ Inconsistent → Result Outcome Inconsistent
finished (Ok k) = Ok (Finished k)
finished (Err e) = Err e

module _ (Γ : Network) (n : ℕ) where
  abbrev pub outcome_within : Result Outcome Inconsistent
  outcome_within = cond (stops Γ n) (Ok (Stopped (left Γ (floor_after Γ n)))) (finished (solved_of (solve Γ)))

  abbrev pub table_within : List ℕ → List ℕ
  table_within t = cond (stops Γ n) (floor_after Γ n ++ drop (length (floor_after Γ n)) t) (table_after Γ t)

  pub record WithinIs (entry exit : List ℕ) (r : Result Outcome Inconsistent) : Type 0 where
    pub answer : r ≡ outcome_within
    pub table : exit ≡ table_within entry
