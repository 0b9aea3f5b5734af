-- The invariant: all are literals exactly when those from b on are, with the bang before them. Assumes nothing.
use mathlib.Core.Path.{◌≡◌}
use mathlib.Core.Bool.{false}
use lib.ListN.{drop}
use Rattle.names.specs.Names.{are_literals_lem}
use Rattle.names.proofs.token.are_literals.Given as goal

abbrev pub invariant-loop-b : goal.invariant-loop-b
invariant-loop-b l = are_literals_lem false l.f ≡ are_literals_lem l.bang (drop l.b-index l.f)
