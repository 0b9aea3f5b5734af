-- The row is raised by its own bounds and then, turn by turn, by the scenario that differs from s by d. The invariant:
-- the row is raised by the first d differences; difference 0, which is s itself, asks nothing new. Assumes nothing.
use Prim.Native.Nat.{max}
use lib.ListN.{get_or}
use Rattle.rows.specs.Rows.{Sixteen}
use Rattle.rounds.proofs.Raise.{across}
use Rattle.rounds.proofs.Compiled.raised.Given as goal

abbrev pub invariant-loop-d : goal.invariant-loop-d
invariant-loop-d l = Sixteen l.o (λ u. max (get_or l.initial.o u 0) (across l.t l.first l.s l.d u))
