use mathlib.Core.Path.{refl}
use native.Mathlib.Omega.{arith}
use Rattle.rows.proofs.Framed.{scenarios_few}
use Rattle.rows.proofs.frame.Frame.cells.Goals as goal

pub returns : goal.returns
returns c = (refl, omega (arith, scenarios_few c.args.self.now))
