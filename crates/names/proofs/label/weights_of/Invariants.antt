-- The invariant: the whole sum is what was added so far and the sum of the rest, so that no step exceeds the whole,
-- which is below 16. Assumes nothing.
use mathlib.Core.Path.{◌≡◌}
use mathlib.Core.Bool.{false}
use Prim.Native.Nat.{◌+◌}
use lib.ListN.{drop}
use Rattle.names.specs.Names.{literals}
use Rattle.names.specs.Defined.{weights}
use Rattle.names.proofs.label.weights_of.Given as goal

abbrev pub invariant-loop-b : goal.invariant-loop-b
invariant-loop-b l = weights l.defined.network.now.signals l.defined.network.now.letters l.truth (literals false l.t)
    ≡ l.sum + weights l.defined.network.now.signals l.defined.network.now.letters l.truth
    (literals l.bang (drop l.b-index l.t))
