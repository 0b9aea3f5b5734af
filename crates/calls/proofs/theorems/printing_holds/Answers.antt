use Rattle.calls.proofs.Printing.{printing}
use Rattle.calls.proofs.theorems.printing_holds.Goals as goal

pub returns : goal.returns
returns c = printing
