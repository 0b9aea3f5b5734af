use Rattle.calls.proofs.Benched.{benched}
use Rattle.calls.proofs.theorems.benched_holds.Goals as goal

pub returns : goal.returns
returns c = benched
