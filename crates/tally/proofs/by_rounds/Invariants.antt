-- `by_rounds` is safe: a round may go from a, which holds zeros or what a round made. Assumes nothing.
use Rattle.rows.specs.Rows.{Times}
use Rattle.tally.proofs.by_rounds.Given as goal

abbrev pub invariant-loop-rounds : goal.invariant-loop-rounds
invariant-loop-rounds l = Times l.compiled.frame.network l.a
