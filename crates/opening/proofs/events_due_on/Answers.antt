-- `opening::events_due_on` meets its contract: where the table is handed in rightly and passes, the player answers.
-- Assumes nothing.
use mathlib.Core.Path.{sym, ◌∙◌, ap}
use Rattle.calls.specs.Play.{is_pass}
use Rattle.opening.specs.Prologue.{of_unanswered}
use Rattle.opening.proofs.Prologue.{handed_on, right, lettered-read}
use Rattle.opening.proofs.Leaves.{refused_by, mapped}
use Rattle.opening.proofs.Playing.{due-refused, due_fails, due-answers}
use Rattle.opening.proofs.Means.{due_on_means}
use Rattle.opening.proofs.events_due_on.Goals as goal

pub returns-in_err-accepted : goal.returns-in_err-accepted
returns-in_err-accepted c =
    due_on_means _ _ _ _ _ (rw (handed_on c.from_residual.result _ c.from_residual.ensures.1)
    (due-refused _ _ _ _ _ c.in_err-accepted.ensures))

pub due-requires : goal.due-requires
due-requires c = lettered-read _ _ (right _ _ _ c.in_ok-accepted.ensures.1).0

pub returns-in-Breach : goal.returns-in-Breach
returns-in-Breach c =
    due_on_means _ _ _ _ _ (rw c.without_line.ensures
    (due_fails _ _ _ _ _ c.in_ok-accepted.ensures.1 (ap is_pass (sym c.check.ensures ∙ c.in-Breach.is))))

pub returns : goal.returns
returns c =
    due_on_means _ _ _ _ _ (mapped of_unanswered c.due.result c.map_err.result c.map_err.ensures.cases
    ∙ ap (refused_by of_unanswered) c.due.ensures
    ∙ due-answers _ _ _ _ _ c.in_ok-accepted.ensures.1 (sym c.in_default.ensures))
