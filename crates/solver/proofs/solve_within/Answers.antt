-- `solve_within` meets its contract: its run begins with all zeros, and ends as the budget lets it. Assumes nothing.
use Rattle.bounds.proofs.Listed.{empty_lists}
use Rattle.solver.specs.Run.{RunIs}
use Rattle.solver.proofs.Solving.{zeros, zero-times}
use Rattle.solver.proofs.Within.{within_resting, within_passing, within_spent}
use Rattle.solver.proofs.solve_within.Goals.{After-run-ended}
use Rattle.solver.proofs.solve_within.Goals as goal

ran : (d : After-run-ended)
    → RunIs d.args.formed.now.network d.args.rounds zeros d.run-ended.new.a d.run-ended.result
ran d = rw d.of-compiled.ensures at d.run-ended.ensures.1

pub of-compiled-requires : goal.of-compiled-requires
of-compiled-requires c = empty_lists c.empty-lists.result c.empty-lists.ensures

pub run-ended-requires : goal.run-ended-requires
run-ended-requires c = zero-times _

pub returns-in-Rests : goal.returns-in-Rests
returns-in-Rests c =
    let d = (goal.at.returns-in-Rests c).After-run-ended in
    within_resting _ _ (ran d) _ _ c.in-Rests.is (rw c.of-compiled.ensures at c.copy_out.ensures)

pub returns-in-Passes : goal.returns-in-Passes
returns-in-Passes c =
    let d = (goal.at.returns-in-Passes c).After-run-ended in within_passing _ _ (ran d) c.in-Passes.is _

pub returns-in-Spent : goal.returns-in-Spent
returns-in-Spent c =
    let d = (goal.at.returns-in-Spent c).After-run-ended in
    within_spent _ _ (ran d) _ _ c.in-Spent.is (rw c.of-compiled.ensures at c.copy_out-in-Spent.ensures) _
    (rw c.cell_count.ensures at c.left.ensures)
