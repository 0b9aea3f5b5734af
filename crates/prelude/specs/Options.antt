-- What a search of these definitions answers, as a function of the code answers it.
use Rattle.std.specs.Prelude.{Option, Some, None}
use Rattle.std.proofs.Math.Option as answer

abbrev pub option_of : {A : Type 0} → answer.Option A → Option A
option_of answer.none = None
option_of (answer.some a) = Some a
