-- The demands on the bench's calls: those of the public calls, on the minutes of the bytes and on the text of what has
-- been heard (of solving `Demands` says them, and of reading a listing back `ReadingBack`); and that the header's
-- functions give back the values that were packed.
use Rattle.std.specs.Prelude.{◌≡◌, true, List, ℕ, ◌*◌, length}
use Rattle.pairs.specs.Pairs.{minutes_of, Short}
use Rattle.network.specs.Build.{cells}
use Rattle.network.specs.declared.Network.{Network}
use Rattle.dispatch.specs.HeardText.{is_heard_lem, heard_in}
use Rattle.calls.specs.Values.{number_values}
use Rattle.calls.specs.Lent.{in_place_lem}
use Rattle.calls.specs.Calls.{housed, converting, ringing}
use Rattle.calls.specs.Counting.{solved_values, rounds_of}
use Rattle.calls.specs.Within.{reach_of, progress_values}
use Rattle.calls.specs.Bench.{bench_judgement, bench_counting, bench_within, bench_listed, judgement_values}
use Rattle.calls.specs.Bench.{bench_due, bench_recovering, packed, packed_count_lem, packed_rounds_lem}
use Rattle.calls.specs.Bench.{packed_reach_lem}
use Rattle.calls.specs.Play.{events_due_lem}
use Rattle.calls.specs.Header.{JudgeHolds, CountHolds, SolverHolds, ReachTold, ReachHolds}
use Rattle.calls.specs.Answers.{Reads}
use Rattle.calls.specs.Numbers.{bytes}
use Rattle.calls.specs.Judges.{Passes, Breaches}
use Rattle.calls.specs.Lists.{WritesListing}
use Rattle.calls.specs.Playing.{TellsRow}

pub record Benched : Type 0 where
  -- demand 2
  pub passes : (sheet b : List ℕ) → Passes sheet (bytes b) (minutes_of b) (judgement_values (bench_judgement sheet b))
  pub breaches : (sheet b : List ℕ)
      → Breaches sheet (bytes b) (minutes_of b) (judgement_values (bench_judgement sheet b))
  -- the listing
  pub lists : (sheet b m : List ℕ)
      → let l = bench_listed sheet b m in
      WritesListing sheet (bytes b) (minutes_of b) (in_place_lem m) (number_values l.answer) l.memory
  -- a text of the form is played as the list of what it says: so it tells the row of a case that has heard this
  pub plays : (sheet b : List ℕ) (Γ : Network) (m : ℕ) (text : List ℕ) → Reads sheet Γ → length b ≡ 2 * cells Γ
      → is_heard_lem text ≡ true → bench_due sheet b m text ≡ events_due_lem sheet (minutes_of b) m (heard_in text)
  pub due : (sheet b : List ℕ) (m : ℕ) (text : List ℕ) → is_heard_lem text ≡ true
      → TellsRow sheet (bytes b) (minutes_of b) m (heard_in text) (number_values (bench_due sheet b m text))
  -- the header's functions, as `Header` has them; a minute of two bytes is short
  pub judge_holds : (sheet b : List ℕ) → let v = judgement_values (bench_judgement sheet b) in JudgeHolds (packed v) v
  pub solver_holds : (sheet b : List ℕ)
      → let r = (bench_counting sheet b).answer in
      SolverHolds (packed_rounds_lem (solved_values r) (rounds_of r)) (solved_values r) (rounds_of r)
  pub within_holds : (sheet : List ℕ) (n : ℕ) (b : List ℕ)
      → let r = (bench_within sheet n b).answer in
      ReachHolds (packed_reach_lem (progress_values r) (reach_of r)) (progress_values r) (reach_of r)
  pub reach_holds : (a : ℕ) → ReachTold a
  pub lister_holds : (sheet b m : List ℕ) → Short (minutes_of b)
      → let v = number_values (bench_listed sheet b m).answer in CountHolds (packed_count_lem v) v
  pub recoverer_holds : (sheet printed b : List ℕ)
      → let v = number_values (bench_recovering sheet printed b).answer in CountHolds (packed_count_lem v) v
  pub house_holds : (sheet m : List ℕ)
      → let v = number_values (housed sheet m).answer in CountHolds (packed_count_lem v) v
  pub converter_holds : (sheet m : List ℕ)
      → let v = number_values (converting sheet m).answer in CountHolds (packed_count_lem v) v
  pub ring_holds : (line m : List ℕ)
      → let v = number_values (ringing line m).answer in CountHolds (packed_count_lem v) v
  pub player_holds : (sheet b : List ℕ) (m : ℕ) (text : List ℕ)
      → let v = number_values (bench_due sheet b m text) in CountHolds (packed_count_lem v) v
