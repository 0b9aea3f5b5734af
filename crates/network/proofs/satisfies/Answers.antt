-- `satisfies` meets its contract: the masks say what the label asks of each proposition. Assumes nothing.
use borrow.Author.Tests.{eq-eqb, ne_eqb}
use Rattle.network.proofs.Masks.{satisfies-bits}
use Rattle.network.proofs.satisfies.Goals as goal

pub returns-then-s-positive : goal.returns-then-s-positive
returns-then-s-positive c =
    rw (
      ← satisfies-bits c.args.s c.args.label c.requires.0 c.requires.1.positive c.requires.1.negative,
      c.from-negative.ensures,
      eq-eqb _ _ (rw c.from-positive.ensures at c.if-s-positive.true),
    )

pub returns-else-s-positive : goal.returns-else-s-positive
returns-else-s-positive c =
    rw (
      ← satisfies-bits c.args.s c.args.label c.requires.0 c.requires.1.positive c.requires.1.negative,
      c.from-positive.ensures,
      ne_eqb _ _ (rw c.from-positive.ensures at c.if-s-positive.false),
    )
