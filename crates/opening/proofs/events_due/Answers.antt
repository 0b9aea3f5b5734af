-- `Said::of` makes a mask of the list, and `events_due_on` answers by the mask: that is the answer by the list.
use mathlib.Core.Path.{◌∙◌, ap}
use Rattle.calls.specs.Play.{events_due_on_lem}
use Rattle.calls.proofs.Play.{events-due-said}
use Rattle.opening.proofs.Means.{due_means}
use Rattle.opening.proofs.events_due.Goals as goal

pub returns : goal.returns
returns c =
    let a = c.args in
    due_means _ _ _ _ _ (c.events_due_on.ensures.outcome
    ∙ ap (events_due_on_lem a.sheet.now a.table.now a.minute) c.of.ensures
    ∙ events-due-said a.sheet.now a.table.now a.minute a.heard.now)
