use Rattle.calls.proofs.Ringing.{ringings}
use Rattle.calls.proofs.theorems.ringing_holds.Goals as goal

pub returns : goal.returns
returns c = ringings
