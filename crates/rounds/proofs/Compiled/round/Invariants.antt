-- Each turn raises one row. The invariant: the first s rows are what they are to be, and the marks have the greatest
-- climb and time over them, cell by cell (`Rounding`). At the end the tests on their greatest are those of the run
-- (`Rounded`). Assumes nothing.
use Rattle.rounds.specs.Rounds.{raised_at}
use Rattle.rounds.proofs.Rounding.{Rounding}
use Rattle.rounds.proofs.Compiled.round.Given as goal

abbrev pub invariant-loop-s : goal.invariant-loop-s
invariant-loop-s l =
    let compiled = l.self in
    Rounding (raised_at compiled.frame.network compiled.lists.now l.t) compiled.frame.scenarios l.t l.new l.marks.climb
    l.marks.highest l.s
