-- Each turn adds the proposition to one set more. The invariant: it is added to the first d (`Doubled`). Assumes
-- nothing.
use Rattle.rows.specs.Known.{Doubled}
use Rattle.rows.proofs.known.double.Given as goal

abbrev pub invariant-loop-d : goal.invariant-loop-d
invariant-loop-d l = Doubled l.p l.v l.initial.first l.first l.d
