-- What the solver answers, and what it leaves in the lent table, by the run that it makes.
use Rattle.std.specs.Prelude.{◌≡◌, ℕ, List, ◌++◌, length, drop, Result, Ok, Err}
use Rattle.fixpoint.specs.Run.{Run, Rests, Passes, Spent}
use Rattle.network.specs.declared.Network.{Network}
use Rattle.solver.specs.declared.Inconsistent.{Inconsistent}
use Rattle.solver.specs.Solve.{solve, found}

-- a run that rests has found the least solution, and any other has found that there is none
abbrev pub solved_of : Run → Result ℕ Inconsistent
solved_of ρ =
    elim ρ.end [
      | Rests ↦ Ok ρ.rounds
      | Passes ↦ Err (record { rounds = ρ.rounds })
      | Spent ↦ Err (record { rounds = ρ.rounds })
    ]

-- "the written part has exactly its stated contents and everything behind it is unaltered"
abbrev pub table_after : Network → List ℕ → List ℕ
table_after Γ t = elim (solve Γ).end [ Rests ↦ found Γ ++ drop (length (found Γ)) t | Passes ↦ t | Spent ↦ t ]

pub record SolvedIs (Γ : Network) (entry exit : List ℕ) (r : Result ℕ Inconsistent) : Type 0 where
  pub answer : r ≡ solved_of (solve Γ)
  pub table : exit ≡ table_after Γ entry
