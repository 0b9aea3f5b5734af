use native.Mathlib.Omega.{arith}
use Rattle.network.proofs.Names.{name-short}
use Rattle.page.proofs.Pushing.{pushing-next}
use Rattle.listing.proofs.push_names.Goals as goal

pub loop-u-preserved : goal.loop-u-preserved
loop-u-preserved g c =
    let accepted = c.args.accepted.now in
    let short = name-short accepted.formed.network accepted.sheet.now c.loop-u.u accepted.named (omega arith) in
    pushing-next c.loop-u.invariant (omega arith) (rw c.name.ensures.0 at c.push_field.ensures) (omega arith)
