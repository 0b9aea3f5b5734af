-- `told_from` meets its contract. The invariant: `first` is the definition's time for the propositions passed; one more
-- that differs may make it sooner. Assumes nothing.
use mathlib.Core.Path.{◌≡◌}
use Rattle.checker.specs.Plain.{told_from}
use Rattle.checker.proofs.known.Known.told_from.Given as goal

abbrev pub invariant-loop-p : goal.invariant-loop-p
invariant-loop-p l = l.first ≡ told_from l.self.from l.p l.self.scenario l.r
