-- `due_in` meets its contract. The invariant: `due` is the sum for the events passed. Assumes nothing.
use Rattle.dispatch.proofs.Core.{Summing}
use Rattle.dispatch.proofs.Moment.due_in.Given as goal

abbrev pub invariant-loop-u : goal.invariant-loop-u
invariant-loop-u l = Summing l.self.strategy.formed.now.network l.self.strategy.table.now l.self.minute l.s l.due l.u
