-- `is_well_named` meets its contract. The invariant: what is named is the mask of the records of the signals passed.
-- Assumes nothing.
use Rattle.dispatch.proofs.Core.{Naming}
use Rattle.dispatch.proofs.Moment.is_well_named.Given as goal

abbrev pub invariant-loop-letter : goal.invariant-loop-letter
invariant-loop-letter l = Naming l.self.strategy.formed.now.network l.said.mask l.named.mask l.letter-index
