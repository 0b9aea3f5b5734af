-- `closing` meets its contract. The invariant: q rounds lead from each of the two tables to where it is, so none of
-- these passed a limit. Assumes nothing.
use Rattle.std.proofs.Common.{◌≡◌, length}
use Rattle.leap.specs.Tables.{Advanced}
use Rattle.leap.proofs.pace.closing.Given as goal

abbrev pub invariant-loop-q : goal.invariant-loop-q
invariant-loop-q l = (length l.b ≡ 256) × Advanced l.compiled.frame.network l.q l.low l.below
    × Advanced l.compiled.frame.network l.q l.high l.above
