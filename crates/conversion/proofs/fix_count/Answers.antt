-- There are fewer lines than a number can count. Assumes nothing.
use mathlib.Core.Logic.{inl}
use native.Mathlib.Omega.{arith}
use Rattle.conversion.proofs.Length.{lines_of-few}
use Rattle.conversion.proofs.fix_count.Goals as goal

pub count-requires-clause-fits : goal.count-requires-clause-fits
count-requires-clause-fits c =
    inl (rw (c.filter.ensures.source, c.of.ensures) (omega (arith, lines_of-few c.args.sheet.now)))
