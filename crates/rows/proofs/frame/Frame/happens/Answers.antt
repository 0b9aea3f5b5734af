-- Where no event has a label each happens. Else the label of u, whose letters are among four, tells. Assumes nothing.
use mathlib.Core.Path.{sym}
use Rattle.network.specs.Happens.{happens}
use Rattle.rows.proofs.Framed.{sums, all_happen}
use Rattle.rows.proofs.frame.Frame.happens.Goals as goal

pub satisfies-requires : goal.satisfies-requires
satisfies-requires c = (c.requires.0, sums c.args.self.now c.args.u)

pub returns-then-not-self : goal.returns-then-not-self
returns-then-not-self c =
    let none = c.if-not-self.true in
    rw none (sym (all_happen c.args.self.now none c.args.s c.args.u))

pub returns-else-not-self : goal.returns-else-not-self
unfolding happens
returns-else-not-self c = c.satisfies.ensures
