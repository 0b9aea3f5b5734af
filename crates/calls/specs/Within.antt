-- Solving within n rounds: what the call answers, and what it leaves in the memory that it is lent. Where the network
-- takes more rounds, that is the floor after n; and otherwise whatever is answered without n.
use Rattle.std.specs.Prelude.{cond, List, [], ◌∷◌, ℕ, eqb, leb, length, Result, Ok, Err}
use Rattle.refusal.specs.declared.Refusal.{Refusal}
use Rattle.refusal.specs.declared.Cause.TheVariants.{NoRounds}
use Rattle.network.specs.Build.{cells}
use Rattle.network.specs.declared.Network.{Network}
use Rattle.solver.specs.Stopped.{stops, floor_after, left}
use Rattle.calls.specs.Values.{OrRefusal, Values, number_values}
use Rattle.calls.specs.Call.{without_line_lem, Tests, call, Left}
use Rattle.calls.specs.Lent.{Lent, in_place_lem}
use Rattle.calls.specs.Calls.{enough}
use Rattle.calls.specs.Counting.{OrUnsolved, counting_into}
use Rattle.calls.specs.declared.Progress.{Progress}
use Rattle.calls.specs.declared.Progress.TheVariants.{Finished, Stopped}
use Rattle.calls.specs.declared.Unsolved.{Unsolved}

abbrev pub OrProgress : Type 0
OrProgress = Result Progress Unsolved

-- how far a run came: no round was made; it finished, after so many; or it was stopped, and so much is left
pub data Reach : Type 0 where
  NoRound : Reach
  Finishes : ℕ → Reach
  Stops : ℕ → Reach

-- of an answer: how many minutes were written, or why none
abbrev pub written_of : OrProgress → OrRefusal ℕ
written_of (Ok (Finished s)) = Ok s.minutes
written_of (Ok (Stopped f)) = Ok f.minutes
written_of (Err u) = Err u.refusal

abbrev pub progress_values : OrProgress → Values ℕ
progress_values r = number_values (written_of r)

-- and how far the run came. Of the refusals 13 alone has rounds, and its run has finished
abbrev pub reach_of : OrProgress → Reach
reach_of (Ok (Finished s)) = Finishes s.rounds
reach_of (Ok (Stopped f)) = Stops f.left
reach_of (Err u) = cond (eqb u.rounds 0) NoRound (Finishes u.rounds)

-- "A finished run answers as without N"
abbrev pub finished_as : OrUnsolved → OrProgress
finished_as (Ok s) = Ok (Finished s)
finished_as (Err u) = Err u

module _ (sheet : List ℕ) (n : ℕ) (m : Lent) where
  -- refused before any round
  abbrev pub unrun : Refusal → Left OrProgress
  unrun r = record { answer = Err (record { refusal = r; rounds = 0 }); memory = m.before }

  -- "23, N is 0, after 12"
  abbrev pub tests_within : Network → Tests
  tests_within Γ = enough m (cells Γ) ∷ (leb 1 n, without_line_lem NoRounds) ∷ []

  -- "it hands out the floor it has"
  abbrev pub stopping : Network → Left OrProgress
  stopping Γ =
      let σ = floor_after Γ n in
      record {
        answer = Ok (Stopped (record { minutes = length σ; left = left Γ σ }));
        memory = m.after σ;
      }

  abbrev pub finishing : Left OrProgress
  finishing =
      let l = counting_into sheet m in
      record { answer = finished_as l.answer; memory = l.memory }

  abbrev pub within_into : Left OrProgress
  within_into = call unrun sheet tests_within (λ Γ. cond (stops Γ n) (stopping Γ) finishing)

abbrev pub within : List ℕ → ℕ → List ℕ → Left OrProgress
within sheet n m = within_into sheet n (in_place_lem m)
