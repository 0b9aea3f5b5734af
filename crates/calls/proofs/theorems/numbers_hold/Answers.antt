use Rattle.calls.proofs.Numbers.{numbers}
use Rattle.calls.proofs.theorems.numbers_hold.Goals as goal

pub returns : goal.returns
returns c = numbers
