use Rattle.calls.proofs.Trials.{trials_hold}
use Rattle.calls.proofs.theorems.trials_hold.Goals as goal

pub returns : goal.returns
returns c = trials_hold
