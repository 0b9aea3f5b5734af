use native.Mathlib.Omega.{arith}
use Rattle.std.proofs.lemmas.List.{take_more}
use Rattle.bounds.proofs.Asked.{raised_next}
use Rattle.bounds.proofs.list.BoundList.raise.Goals as goal

pub loop-bound-preserved : goal.loop-bound-preserved
loop-bound-preserved c =
    let b = c.bound-item.result in
    let items = c.as_slice-bound-items.result.now in
    let i = c.loop-bound.bound-index in
    rw (take_more items i b (omega arith), ← c.bound-item.is, c.from-target.ensures)
    (raised_next _ b c.args.row.now c.args.o.now c.loop-bound.o c.max.result c.loop-bound.invariant
    (rw (c.from-target.ensures, c.from.ensures) at c.max.ensures))
