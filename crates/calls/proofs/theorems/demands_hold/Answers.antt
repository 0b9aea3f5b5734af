use Rattle.calls.proofs.Demands.{demands}
use Rattle.calls.proofs.theorems.demands_hold.Goals as goal

pub returns : goal.returns
returns c = demands
