-- `finish` meets its contract: rises clipped to the two bounds are rises that rounds may go from. Assumes nothing.
use Rattle.std.proofs.Common.{◌≡◌, ◌*◌, arith}
use Rattle.network.specs.Build.{scenarios}
use Rattle.rows.specs.Rows.{Times}
use Rattle.moves.proofs.Fronts.{rise-times, clip-times}
use Rattle.leap.proofs.pace.finish.Goals.{After-rise-d}
use Rattle.leap.proofs.pace.finish.Goals as goal

cells : (d : After-rise-d) → d.cells-cells.result ≡ scenarios d.args.compiled.now.frame.network * 16
cells d = omega (arith, d.cells-cells.ensures.0, d.args.compiled.now.frame.scenarios_are)

risen : (d : After-rise-d) → Times d.args.compiled.now.frame.network d.rise-d.result
risen d = rise-times (cells d) _ _ d.requires (omega (arith, d.cells-cells.ensures.1)) d.rise-d.ensures

pub invariant_of-guess : goal.invariant_of-guess
invariant_of-guess c =
    let d = (goal.at.invariant_of-guess c).After-rise-d in
    let few = d.cells-cells.ensures.1 in
    record {
      times = (c.requires, clip-times (cells d) (risen d) (omega (arith, few)) c.clip-upper.ensures);
      small = (c.most-j.ensures, c.if-p-gt65535.false);
    }

pub passes_after-requires : goal.passes_after-requires
passes_after-requires c =
    let d = (goal.at.passes_after-requires c).After-rise-d in
    clip-times (cells d) (risen d) (omega (arith, d.cells-cells.ensures.1)) c.clip-lower.ensures
