-- `said_by` meets its contract. The invariant: the records of what is left, after a bang or none, make of the mask
-- that of all. Assumes nothing.
use Rattle.dispatch.proofs.HeardText.{Saying}
use Rattle.dispatch.proofs.heard_text.said_by.Given as goal

abbrev pub invariant-loop-b : goal.invariant-loop-b
invariant-loop-b l = Saying l.t l.said.mask l.bang l.b-index
