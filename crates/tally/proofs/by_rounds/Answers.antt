use Rattle.std.proofs.Common.{◌≡◌, ◌*◌, refl, arith}
use Rattle.network.specs.Build.{scenarios}
use Rattle.moves.proofs.Moves.{wrote-times}
use Rattle.moves.proofs.Fronts.{copied}
use Rattle.solver.proofs.Solving.{zero-times}
use Rattle.tally.proofs.by_rounds.Goals as goal

pub loop-rounds-init : goal.loop-rounds-init
loop-rounds-init c = zero-times _

pub loop-rounds-preserved : goal.loop-rounds-preserved
loop-rounds-preserved c =
    let frame = c.args.compiled.now.frame in
    let one = c.in-Rises.ensures in
    let cells : c.cells-cells.result ≡ scenarios frame.network * 16 =
    omega (arith, c.cells-cells.ensures.0, frame.scenarios_are) in
    wrote-times _ (one.times refl) c.loop-rounds.invariant.sized
    (rw cells at (copied _ (omega (arith, one.sized, c.cells-cells.ensures.1)) c.copy.ensures))
    (λ i h. omega arith)
