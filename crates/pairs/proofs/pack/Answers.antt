use mathlib.Core.Path.{◌≡◌, refl}
use native.Mathlib.Omega.{arith}
use Prim.Native.Nat.{◌/◌, ◌%◌}
use lib.ListN.{get_or, length-set}
use Rattle.pairs.proofs.Packing.{pack_step}
use Rattle.pairs.proofs.pack.Goals as goal

pub loop-i-preserved : goal.loop-i-preserved
loop-i-preserved c =
    let here = c.loop-i in let table = c.args.table.now in let minute = get_or table here.i 0 in
    let high : minute / 256 % 256 ≡ minute / 256 = omega (arith, c.type_inv.table here.i) in
    let step = pack_step table c.args.bytes.now here.bytes here.i minute here.invariant.1 c.loop-i-test.true
    c.requires refl in
    (simp length-set here.invariant.0, rw (c.to_le_bytes.ensures, high) step)
