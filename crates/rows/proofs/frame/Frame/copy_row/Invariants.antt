-- Each turn writes one time or a blank. The invariant: those so far are there, and the rest is unaltered. Assumes
-- nothing.
use mathlib.Core.Bool.{cond}
use Prim.Native.Nat.{◌+◌, ◌*◌}
use lib.ListN.{get_or}
use Rattle.network.specs.Happens.{happens}
use Rattle.rows.specs.Rows.{Wrote}
use Rattle.rows.proofs.frame.Frame.copy_row.Given as goal

abbrev pub invariant-loop-u : goal.invariant-loop-u
invariant-loop-u l = Wrote l.initial.row l.row 0 l.u (λ k. cond (happens l.self.network l.s k)
    (get_or l.t (l.s * 16 + k) 0) 65535)
