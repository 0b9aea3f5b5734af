-- `all` is safe: a sheet ends within the rest. Assumes nothing.
use Rattle.std.proofs.Common.{arith, sym, length-take-le}
use Rattle.text.proofs.Lines.{up_to_le}
use Rattle.trials.proofs.small.all.Goals as goal

pub slice_bounds-compare-end : goal.slice_bounds-compare-end
slice_bounds-compare-end g c =
    sym (length-take-le _ _ (omega (arith, c.until-end.ensures, up_to_le 61 c.loop-rest.rest.now)))

pub overflow_add-end : goal.overflow_add-end
overflow_add-end g c = omega (arith, c.until-end.ensures, up_to_le 61 c.loop-rest.rest.now)
