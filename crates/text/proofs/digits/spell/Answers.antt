-- Each place leaves the number that is made as it was, which is v before the first and is written once the ones are put
-- behind the tens. Assumes nothing.
use mathlib.Core.Path.{◌∙◌}
use native.Mathlib.Nat.{zero-add}
use borrow.Author.Rules.{rules}
use Rattle.text.proofs.Counting.{digits_last}
use Rattle.text.proofs.digits.spell.Goals as goal

pub returns : goal.returns
returns c =
    rw c.push.ensures
    (digits_last _ _ _
    (c.place-ones.ensures.kept
    ∙ c.place-below_hundred.ensures.kept
    ∙ c.place-below_thousand.ensures.kept
    ∙ c.place-below_ten_thousand.ensures.kept
    ∙ rw c.new-digits.ensures (zero-add _))
    c.place-ones.ensures.are
    (search rules))
