-- `by_leaps` is safe: a run may go from all zeros. Assumes nothing.
use Rattle.solver.proofs.Solving.{zero-times}
use Rattle.tally.proofs.by_leaps.Goals as goal

pub run-ended-requires : goal.run-ended-requires
run-ended-requires c = zero-times _
