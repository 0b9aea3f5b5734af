-- Each turn writes the row of one scenario behind those before it. The invariant: the first s rows are there, and the
-- rest is unaltered. Assumes nothing.
use mathlib.Core.Bool.{cond}
use Prim.Native.Nat.{◌+◌, ◌*◌, ◌/◌, ◌%◌}
use lib.ListN.{get_or}
use Rattle.network.specs.Happens.{happens}
use Rattle.rows.specs.Rows.{Wrote}
use Rattle.rows.proofs.frame.Frame.copy_out.Given as goal

abbrev pub invariant-loop-s : goal.invariant-loop-s
invariant-loop-s l =
    let Γ = l.self.network in
    let n = Γ.events in
    Wrote l.initial.out l.out 0 (l.s * n) (λ i. cond (happens Γ (i / n) (i % n))
    (get_or l.t (i / n * 16 + i % n) 0) 65535)
