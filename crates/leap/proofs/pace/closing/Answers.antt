use Rattle.std.proofs.Common.{◌≡◌, ◌*◌, arith}
use Rattle.network.specs.Build.{scenarios}
use Rattle.moves.proofs.Fronts.{copied}
use Rattle.leap.proofs.Tables.{advanced_join, advanced_round, advanced_copied}
use Rattle.leap.proofs.Passing.{closing_of}
use Rattle.leap.proofs.pace.closing.Goals as goal

pub returns-in-Passes : goal.returns-in-Passes
returns-in-Passes c =
    let here = c.loop-q.invariant in
    (omega arith, omega (arith, c.loop-q-test.true), closing_of here.1 here.2 c.in-Passes.ensures)

pub loop-q-preserved : goal.loop-q-preserved
loop-q-preserved c =
    let frame = c.args.compiled.now.frame in
    let few = frame.formed.events in
    let here = c.loop-q.invariant in
    let one = c.in-Rises.ensures in
    let two = c.in-Rises-round.ensures in
    let short = c.cells-cells.ensures.1 in
    let cells : c.cells-cells.result ≡ scenarios frame.network * 16 =
    omega (arith, c.cells-cells.ensures.0, frame.scenarios_are) in (
      two.sized,
      advanced_copied few (advanced_join here.1 (advanced_round one)) here.1.times.sized
          (rw cells at (copied _ (omega (arith, one.sized, short)) c.copy.ensures)),
      advanced_copied few (advanced_join here.2 (advanced_round two)) here.2.times.sized
          (rw cells at (copied _ (omega (arith, two.sized, short)) c.copy-in-loop-q.ensures)),
    )
