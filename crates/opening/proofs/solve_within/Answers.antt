-- `opening::solve_within` meets its contract: where there is room and a round to make the solver is asked, and has
-- finished, with a table or none, or was stopped. Assumes nothing.
use Rattle.std.proofs.Common.{arith, Err}
use Rattle.calls.specs.declared.Progress.{Progress}
use Rattle.opening.proofs.Prologue.{roomy, handed_unrun}
use Rattle.opening.proofs.WithinLeaves.{within-refused, within_zero, within_finished, within_none, within_stopped}
use Rattle.opening.proofs.Means.{within_means}
use Rattle.opening.proofs.solve_within.Goals as goal

pub solve_within-requires : goal.solve_within-requires
solve_within-requires c = roomy _ _ _ c.in_ok-accepted.ensures.1

pub returns-in_err-accepted : goal.returns-in_err-accepted
returns-in_err-accepted c =
    within_means _ _ _ _ _ (rw (handed_unrun c.from_residual.result _ c.from_residual.ensures.1)
    (within-refused _ _ _ _ c.in_err-accepted.ensures))

pub returns-then-rounds-eq0 : goal.returns-then-rounds-eq0
returns-then-rounds-eq0 c =
    let refused = handed_unrun {A = Progress} (Err c.into.result) _ c.into.ensures in
    within_means _ _ _ _ _ (rw (refused, c.without_line.ensures)
    (within_zero _ _ _ _ c.in_ok-accepted.ensures.1 c.if-rounds-eq0.true))

pub returns-in-Ok-Finished : goal.returns-in-Ok-Finished
returns-in-Ok-Finished c =
    let read = c.in_ok-accepted in
    let end = c.in-Ok-Finished in
    within_means _ _ _ _ _ (rw c.cell_count-minutes.ensures
    (within_finished _ _ _ _ read.ensures.1 read.accepted.formed.well_formed (omega (arith, c.if-rounds-eq0.false))
    c.solve_within.ensures _ (rw end.field-0-is at end.is)))

pub returns-in-Ok-Stopped : goal.returns-in-Ok-Stopped
returns-in-Ok-Stopped c =
    let read = c.in_ok-accepted in
    let end = c.in-Ok-Stopped in
    within_means _ _ _ _ _ (rw c.cell_count-minutes.ensures
    (within_stopped _ _ _ _ read.ensures.1 read.accepted.formed.well_formed (omega (arith, c.if-rounds-eq0.false))
    c.solve_within.ensures _ (rw end.field-0-is at end.is)))

pub returns-in-Err : goal.returns-in-Err
returns-in-Err c =
    let read = c.in_ok-accepted in
    within_means _ _ _ _ _ (rw c.unsolved.ensures
    (within_none _ _ _ _ read.ensures.1 read.accepted.formed.well_formed (omega (arith, c.if-rounds-eq0.false))
    c.solve_within.ensures _ c.in-Err.is))
