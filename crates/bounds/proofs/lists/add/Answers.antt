use Prim.Native.Nat.{◌≤◌, ◌<◌}
use native.Mathlib.Omega.{arith}
use lib.ListN.{length}
use lib.Seq.{get_or-take, length-take-le}
use Rattle.std.proofs.lemmas.List.{get_or_default}
use Rattle.rows.proofs.Framed.{scenarios_few}
use Rattle.bounds.specs.Listed.{none}
use Rattle.bounds.proofs.Listed.{added_part}
use Rattle.bounds.proofs.lists.add.Goals.{In-loop-s}
use Rattle.bounds.proofs.lists.add.Goals as goal

-- the scenario of a turn has a list
few : (d : In-loop-s) → d.loop-s.s < d.args.frame.now.scenarios
few d =
    let n = d.args.frame.now.scenarios in
    let all : n ≤ length d.args.lists.now = omega (arith, d.told-lists, scenarios_few d.args.frame.now) in
    omega (arith, d.loop-s-test.true, length-take-le n d.args.lists.now all)

inside : (d : In-loop-s) → d.loop-s.s < length d.loop-s.list-items
inside d = omega (arith, d.loop-s-test.true, d.loop-s.invariant.sized)

pub slice_bounds-list-items-end : goal.slice_bounds-list-items-end
slice_bounds-list-items-end c = omega (arith, scenarios_few c.args.frame.now)

pub satisfies-requires : goal.satisfies-requires
satisfies-requires c =
    let d = (goal.at.satisfies-requires c).In-loop-s in
    (omega (arith, few d, scenarios_few c.args.frame.now), c.requires.0)

pub push-requires : goal.push-requires
push-requires c =
    let d = (goal.at.push-requires c).In-loop-s in
    let s = c.loop-s.s in
    let own = get_or_default c.loop-s.list-items s c.list-item.result none (inside d) in
    let lent = get_or-take c.args.frame.now.scenarios c.args.lists.now s none (few d) in
    rw (own, c.loop-s.invariant.later s (omega arith), lent) (omega (arith, c.requires.1 s))

pub returns : goal.returns
returns c =
    let n = c.args.frame.now.scenarios in
    let all : n ≤ length c.args.lists.now = omega (arith, c.told-lists, scenarios_few c.args.frame.now) in
    added_part c.loop-s.invariant all (omega (arith, c.loop-s-test.false, length-take-le n c.args.lists.now all))
