use mathlib.Core.Path.{◌≡◌}
use Prim.Native.Nat.{suc, ◌+◌, ◌-◌}
use native.Mathlib.Omega.{arith}
use Rattle.conversion.proofs.Writing.{fronting-room, fronting-line, fronting-end}
use Rattle.conversion.proofs.push_lines.Goals.{in-Some, in_default, After-next}
use Rattle.conversion.proofs.push_lines.Goals as goal

-- one line fewer is to be written
one : (d : After-next) → d.args.count - d.loop.counter ≡ suc (d.args.count - (d.loop.counter + 1))
one d = omega arith

pub push_all-requires : goal.push_all-requires
push_all-requires c =
    let d = (goal.at.push_all-requires c).After-next in
    (omega arith, omega (arith, fronting-room c.loop.invariant (one d) c.in-Some.ensures.steps, c.requires))

pub loop-preserved : goal.loop-preserved
loop-preserved c =
    let d = (goal.at.loop-preserved c).After-next in
    elim c.match-next.branch [
      | in-Some w ↦ rw w.page-is (fronting-line c.loop.invariant (one d) w.in-Some.ensures.steps w.push_all.ensures.is)
      | in_default w ↦ rw w.page-is
          (fronting-end c.loop.invariant (one d) w.in_default.ensures.steps.0 w.in_default.ensures.steps.1)
    ]
