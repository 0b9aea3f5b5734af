use mathlib.Core.Path.{◌∙◌}
use native.Mathlib.Omega.{arith}
use borrow.Author.Rules.{rules}
use Rattle.text.proofs.ReadNumber.{digits_hit}
use Rattle.text.proofs.read_digits.Goals as goal

pub loop-b-preserved : goal.loop-b-preserved
loop-b-preserved c =
    let here = c.loop-b in
    let e = c.next_size-v.ensures in (
      rw e (omega arith),
      rw e (here.invariant.1 ∙ digits_hit _ here.v _ here.b-index (search rules) (search rules) (search rules)),
    )
