-- Each turn writes one time. The invariant: the first u are there, and the rest is unaltered. Assumes nothing.
use Prim.Native.Nat.{◌*◌}
use lib.ListN.{get_or}
use Rattle.rows.specs.Rows.{Wrote}
use Rattle.rows.proofs.write_row.Given as goal

abbrev pub invariant-loop-u : goal.invariant-loop-u
invariant-loop-u l = Wrote l.initial.t l.t (l.s * 16) l.u (λ k. get_or l.o k 0)
