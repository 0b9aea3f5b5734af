use Rattle.calls.proofs.ReadingBack.{reading_back}
use Rattle.calls.proofs.theorems.reading_back_holds.Goals as goal

pub returns : goal.returns
returns c = reading_back
