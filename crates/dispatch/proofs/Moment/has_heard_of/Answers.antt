-- What a mask says of a letter, tested as the code tests it, is the definition's test. Assumes nothing.
use mathlib.Core.Path.{◌∙◌}
use Rattle.dispatch.proofs.Core.{as_heard-is}
use Rattle.dispatch.proofs.Moment.has_heard_of.Goals as goal

pub returns : goal.returns
returns c =
    let here = c.args.self.now in
    let Γ = here.strategy.formed.now.network in
    c.tells.ensures
    ∙ rw c.known_truth.ensures
    (as_heard-is Γ here.strategy.table.now here.minute c.args.said.mask c.args.s c.args.p)
