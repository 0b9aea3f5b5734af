-- Each turn lists the bound for one scenario, where the label holds in it. The invariant: it is listed for the first s
-- (`Added`). Assumes nothing.
use Rattle.bounds.specs.Listed.{Added}
use Rattle.bounds.proofs.lists.add.Given as goal

abbrev pub invariant-loop-s : goal.invariant-loop-s
invariant-loop-s l = Added l.label l.bound l.initial.list-items l.list-items l.s
