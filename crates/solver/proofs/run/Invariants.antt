-- `run` meets its contract: its loop is underway from the floor, by one round a turn and those that are passed over,
-- and it ends where a round or the law of the two far tables says. The invariant: at most `budget` rounds lead from
-- the table at entry to where the stretch is, by way of its base. The measure is what is left of the budget. Assumes
-- nothing.
use Rattle.std.proofs.Common.{◌≡◌, ◌-◌, ◌≤◌, length}
use Rattle.solver.proofs.Underway.{Underway}
use Rattle.solver.proofs.run.Given as goal

abbrev pub invariant-loop-rounds : goal.invariant-loop-rounds
invariant-loop-rounds l = (l.rounds ≤ l.budget) × (l.turns ≤ l.rounds) × (length l.a ≡ 256)
    × (l.stretch.compiled.now ≡ l.compiled)
    × Underway l.compiled.frame.network l.initial.a l.stretch.base l.stretch.rounds l.rounds

abbrev pub decreases-loop-rounds : goal.decreases-loop-rounds
decreases-loop-rounds l = l.budget - l.rounds
