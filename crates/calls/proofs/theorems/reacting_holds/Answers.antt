use Rattle.calls.proofs.Reacting.{reacting}
use Rattle.calls.proofs.theorems.reacting_holds.Goals as goal

pub returns : goal.returns
returns c = reacting
