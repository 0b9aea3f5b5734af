use Rattle.calls.proofs.Converting.{conversions}
use Rattle.calls.proofs.theorems.converting_holds.Goals as goal

pub returns : goal.returns
returns c = conversions
