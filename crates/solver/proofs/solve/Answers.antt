-- `solve` meets its contract: no run takes as many rounds as its budget. Assumes nothing.
use Rattle.solver.specs.Solved.{SolvedIs}
use Rattle.solver.proofs.Solving.{budget, rounds_few}
use Rattle.solver.proofs.Within.{plain, solved_plain, never_stopped}
use Rattle.solver.proofs.solve.Goals.{After-solve_within}
use Rattle.solver.proofs.solve.Goals as goal

solved : (d : After-solve_within)
    → SolvedIs d.args.formed.now.network d.args.table.now d.solve_within.new.table (plain d.solve_within.result)
solved d = solved_plain _ budget (rounds_few _ d.args.formed.now.well_formed) d.solve_within.ensures

pub unreachable-requires : goal.unreachable-requires
unreachable-requires c =
    let stopped = c.in-Ok-Stopped in
    never_stopped _ budget (rounds_few _ c.args.formed.now.well_formed) c.solve_within.ensures _
    (rw stopped.field-0-is at stopped.is)

pub returns-in-Ok-Finished : goal.returns-in-Ok-Finished
returns-in-Ok-Finished c =
    let d = (goal.at.returns-in-Ok-Finished c).After-solve_within in
    rw (c.in-Ok-Finished.is, c.in-Ok-Finished.field-0-is) at (solved d)

pub returns-in-Err : goal.returns-in-Err
returns-in-Err c = let d = (goal.at.returns-in-Err c).After-solve_within in rw c.in-Err.is at (solved d)
