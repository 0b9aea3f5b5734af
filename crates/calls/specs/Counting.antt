-- The count of rounds that goes with the solver's answer: with a table that is found, and where there is none.
use Rattle.std.specs.Prelude.{List, [], ◌∷◌, ℕ, Result, Ok, Err}
use Rattle.network.specs.Build.{cells}
use Rattle.solver.specs.Solve.{solve}
use Rattle.calls.specs.Values.{OrRefusal, Values, number_values}
use Rattle.calls.specs.Call.{call, Left}
use Rattle.calls.specs.Lent.{Lent, in_place_lem}
use Rattle.calls.specs.Calls.{enough, solving_into}
use Rattle.calls.specs.declared.Solved.{Solved}
use Rattle.calls.specs.declared.Unsolved.{Unsolved}

-- what the solver's call answers: its answer, and beside it the count
abbrev pub OrUnsolved : Type 0
OrUnsolved = Result Solved Unsolved

abbrev pub answer_of : OrUnsolved → OrRefusal ℕ
answer_of (Ok s) = Ok s.minutes
answer_of (Err u) = Err u.refusal

abbrev pub rounds_of : OrUnsolved → ℕ
rounds_of (Ok s) = s.rounds
rounds_of (Err u) = u.rounds

abbrev pub counted_as : ℕ → OrRefusal ℕ → OrUnsolved
counted_as k (Ok n) = Ok (record { minutes = n; rounds = k })
counted_as k (Err r) = Err (record { refusal = r; rounds = k })

abbrev pub solved_values : OrUnsolved → Values ℕ
solved_values r = number_values (answer_of r)

module _ (sheet : List ℕ) (m : Lent) where
  -- how many rounds it takes: none where the sheet is refused or the memory is too short
  abbrev pub rounds_taken : ℕ
  rounds_taken = call (λ _. 0) sheet (λ Γ. enough m (cells Γ) ∷ []) (λ Γ. (solve Γ).rounds)

  -- solving, with the count
  abbrev pub counting_into : Left OrUnsolved
  counting_into =
      let l = solving_into sheet m in
      record { answer = counted_as rounds_taken l.answer; memory = l.memory }

abbrev pub counting : List ℕ → List ℕ → Left OrUnsolved
counting sheet m = counting_into sheet (in_place_lem m)
