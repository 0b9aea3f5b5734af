use mathlib.Core.Path.{ap}
use mathlib.Core.List.{List, [], ◌∷◌}
use native.Mathlib.Omega.{arith}
use lib.ListN.{length, length-append}
use Rattle.counted.specs.Values.{values}
use Rattle.network.specs.declared.Constraint.{Constraint}
use Rattle.tighten.specs.Upper.{uppers_of}
use Rattle.tighten.proofs.Rules.{length-uppers_of}
use Rattle.tighten.proofs.Regular.{uppers_regular}
use Rattle.tighten.proofs.Collected.{collected_none, collected_all, collected_lt, collected_few, collected_more}
use Rattle.tighten.proofs.remaining.Goals as goal

pub loop-least-init : goal.loop-least-init
loop-least-init c =
    (c.encode_all-encodings.ensures, rw c.new-remaining.ensures (collected_none (uppers_of c.args.formed.now.network)))

pub push-requires : goal.push-requires
push-requires c =
    let formed = c.args.formed.now in
    let inv = c.loop-least.invariant in
    let regular = uppers_regular formed.network formed.well_formed in
    let few = collected_few regular inv.1 (rw inv.0 at c.in-Some.ensures) in
    (omega arith, omega (arith, few, length-uppers_of formed.network, formed.well_formed.rules))

pub floor_after-floor-requires : goal.floor_after-floor-requires
floor_after-floor-requires c =
    let formed = c.args.formed.now in
    let inv = c.loop-least.invariant in
    let regular = uppers_regular formed.network formed.well_formed in
    collected_lt regular inv.1 (rw inv.0 at c.in-Some.ensures)

pub loop-least-smaller : goal.loop-least-smaller
loop-least-smaller c =
    let formed = c.args.formed.now in
    let inv = c.loop-least.invariant in
    let regular = uppers_regular formed.network formed.well_formed in
    let few = collected_few regular inv.1 (rw inv.0 at c.in-Some.ensures) in
    omega (
      arith,
      few,
      ap (λ (l : List Constraint). length l) c.push.ensures,
      length-append (values c.loop-least.remaining) (c.decode.result ∷ []),
    )

pub loop-least-preserved : goal.loop-least-preserved
loop-least-preserved c =
    let formed = c.args.formed.now in
    let inv = c.loop-least.invariant in
    let regular = uppers_regular formed.network formed.well_formed in (
      inv.0,
      rw (c.push.ensures, c.decode.ensures, c.floor_after-floor.ensures)
          (collected_more regular inv.1 (rw inv.0 at c.in-Some.ensures)),
    )

pub returns : goal.returns
returns c =
    let formed = c.args.formed.now in
    let inv = c.loop-least.invariant in
    collected_all (uppers_regular formed.network formed.well_formed) inv.1 (rw inv.0 at c.in_default.ensures)
