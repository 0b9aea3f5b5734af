-- Each turn reads one time. The invariant: the first u are there. Assumes nothing.
use Prim.Native.Nat.{◌+◌, ◌*◌}
use lib.ListN.{get_or}
use Rattle.rows.specs.Rows.{Wrote}
use Rattle.rows.proofs.read_row.Given as goal

abbrev pub invariant-loop-u : goal.invariant-loop-u
invariant-loop-u l = Wrote l.initial.row l.row 0 l.u (λ k. get_or l.t (l.s * 16 + k) 0)
