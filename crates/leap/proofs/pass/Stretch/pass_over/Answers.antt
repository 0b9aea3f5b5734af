use Rattle.std.proofs.Common.{◌≡◌, ◌*◌, ◌∙◌, arith}
use Rattle.network.specs.Build.{scenarios}
use Rattle.rows.specs.Rows.{Times}
use Rattle.moves.proofs.Fronts.{rise-times, some_risen}
use Rattle.leap.proofs.Tables.{advanced_join, hopped}
use Rattle.leap.proofs.pass.Stretch.pass_over.Goals.{After-rise-d}
use Rattle.leap.proofs.pass.Stretch.pass_over.Goals as goal

cells : (d : After-rise-d) → d.cells-cells.result ≡ scenarios d.args.self.now.compiled.now.frame.network * 16
cells d = omega (arith, d.cells-cells.ensures.0, d.args.self.now.compiled.now.frame.scenarios_are)

risen : (d : After-rise-d) → Times d.args.self.now.compiled.now.frame.network d.rise-d.result
risen d =
    rise-times (cells d) _ _ d.args.self.now.led.times (omega (arith, d.cells-cells.ensures.1)) d.rise-d.ensures

pub hop-more-requires : goal.hop-more-requires
hop-more-requires c =
    let d = (goal.at.hop-more-requires c).After-rise-d in
    let here = c.loop.invariant in
    let T = risen d in
    let some = c.is_risen.ensures.0 c.if-not-is_risen.false in
    let S = some_risen (omega (arith, T.sized, d.cells-cells.ensures.1)) some in
    rw here.1 (T, c.loop.tries.small, omega (arith, here.2, c.if-self-gt65535.false), rw (cells d) at S)

pub loop-preserved : goal.loop-preserved
loop-preserved c =
    let here = c.loop.invariant in
    let hop = c.hop-more.ensures in
    let more = hopped c.hop-more.result c.loop.self.started hop.2 in
    rw c.unwrap_or-made.ensures (
      omega (arith, more.0, here.0),
      hop.0 ∙ here.1,
      hop.1 ∙ here.2,
      advanced_join here.3 (rw here.1 at more.1),
    )
