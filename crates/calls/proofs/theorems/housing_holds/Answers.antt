use Rattle.calls.proofs.Housing.{housing}
use Rattle.calls.proofs.theorems.housing_holds.Goals as goal

pub returns : goal.returns
returns c = housing
