-- Each turn raises the target of one bound. The invariant: the row is raised as far as the bounds so far ask. Assumes
-- nothing.
use Prim.Native.Nat.{max}
use lib.ListN.{get_or, take}
use Rattle.rows.specs.Rows.{Sixteen}
use Rattle.bounds.specs.Listed.{asks}
use Rattle.bounds.proofs.list.BoundList.raise.Given as goal

abbrev pub invariant-loop-bound : goal.invariant-loop-bound
invariant-loop-bound l = Sixteen l.o (λ u. max (get_or l.initial.o u 0)
    (asks (take l.bound-index l.bound-items) l.row u))
