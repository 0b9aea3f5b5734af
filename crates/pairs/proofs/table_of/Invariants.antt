-- `pairs::table_of`: as many minutes as turns stand in the list.
use Rattle.std.proofs.Common.{◌≡◌}
use Rattle.counted.specs.Values.{values}
use Rattle.prelude.specs.Bounded.{tabulate}
use Rattle.pairs.specs.Pairs.{pair_at}
use Rattle.pairs.proofs.table_of.Given as goal

abbrev pub invariant-loop-i : goal.invariant-loop-i
invariant-loop-i g l = values l.table ≡ tabulate l.i (pair_at l.bytes)
