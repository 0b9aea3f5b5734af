-- `all` ends: each turn takes at least one byte off the rest, which is no longer than the text.
use Rattle.std.proofs.Common.{◌≤◌, length}
use Rattle.trials.proofs.small.all.Given as goal

abbrev pub invariant-loop-rest : goal.invariant-loop-rest
invariant-loop-rest g l = length l.rest ≤ length l.text

abbrev pub decreases-loop-rest : goal.decreases-loop-rest
decreases-loop-rest g l = length l.rest
