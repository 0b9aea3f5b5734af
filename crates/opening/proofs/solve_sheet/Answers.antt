-- `opening::solve_sheet` meets its contract: where there is room the solver is asked, and found a table or none.
-- Assumes nothing.
use Rattle.opening.proofs.Prologue.{roomy, handed_unrun}
use Rattle.opening.proofs.SolverLeaves.{solving-refused, solving_consistent, solving-none}
use Rattle.opening.proofs.Means.{solve_means}
use Rattle.opening.proofs.solve_sheet.Goals as goal

pub solve-requires : goal.solve-requires
solve-requires c = roomy _ _ _ c.in_ok-accepted.ensures.1

pub returns-in_err-accepted : goal.returns-in_err-accepted
returns-in_err-accepted c =
    solve_means _ _ _ _ (rw (handed_unrun c.from_residual.result _ c.from_residual.ensures.1)
    (solving-refused _ _ _ c.in_err-accepted.ensures))

pub returns-in-Ok : goal.returns-in-Ok
returns-in-Ok c =
    let read = c.in_ok-accepted in
    solve_means _ _ _ _ (rw c.cell_count-minutes.ensures
    (solving_consistent _ _ _ read.ensures.1 read.accepted.formed.well_formed c.solve.ensures _ c.in-Ok.is))

pub returns-in-Err : goal.returns-in-Err
returns-in-Err c =
    let read = c.in_ok-accepted in
    solve_means _ _ _ _ (rw c.unsolved.ensures
    (solving-none _ _ _ read.ensures.1 read.accepted.formed.well_formed c.solve.ensures _ c.in-Err.is))
