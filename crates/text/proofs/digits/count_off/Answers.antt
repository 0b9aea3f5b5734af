-- Three of the weights are taken off, or one. Assumes nothing.
use Prim.Native.Nat.{◌*◌}
use native.Mathlib.Omega.{arith}
use Rattle.text.proofs.Counting.{off_more}
use Rattle.text.proofs.digits.count_off.Goals as goal

pub loop-left-preserved : goal.loop-left-preserved
loop-left-preserved c =
    let here = c.loop-left in
    let w = c.args.weight in
    off_more 1 w here.digit w here.left c.args.v (omega arith) (omega arith) here.invariant

pub loop-left-preserved-then-three-left : goal.loop-left-preserved-then-three-left
loop-left-preserved-then-three-left c =
    let here = c.loop-left in
    let w = c.args.weight in
    off_more 3 (3 * w) here.digit w here.left c.args.v (omega arith) (omega arith) here.invariant
