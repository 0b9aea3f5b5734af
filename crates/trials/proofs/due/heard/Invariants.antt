-- There is room for each signal that is left. Assumes nothing.
use Rattle.std.proofs.Common.{◌+◌, ◌≤◌, length}
use Rattle.counted.specs.Values.{values}
use Rattle.trials.proofs.due.heard.Given as goal

abbrev pub invariant-loop-p : goal.invariant-loop-p
invariant-loop-p l = length (values l.history) + l.p ≤ 4
