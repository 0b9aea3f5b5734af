use mathlib.Core.Path.{◌≡◌, ◌∙◌, ap}
use native.Mathlib.Omega.{arith}
use lib.ListN.{length}
use Rattle.counted.specs.Values.{values}
use Rattle.prelude.proofs.Bounded.{length-tabulate}
use Rattle.pairs.specs.Pairs.{pair_at}
use Rattle.pairs.proofs.Packing.{table_step}
use Rattle.pairs.proofs.table_of.Goals as goal

pub push-requires : goal.push-requires
push-requires g c =
    let here = c.loop-i in
    omega (arith, ap length here.invariant, length-tabulate (pair_at c.args.bytes.now) here.i)

pub loop-i-preserved : goal.loop-i-preserved
loop-i-preserved g c =
    let here = c.loop-i in
    let bytes = c.args.bytes.now in
    let minute = c.from_le_bytes.result in
    let is : minute ≡ pair_at bytes here.i = omega (arith, c.from_le_bytes.ensures) in
    c.push.ensures ∙ table_step bytes (values here.table) here.i minute here.invariant is
