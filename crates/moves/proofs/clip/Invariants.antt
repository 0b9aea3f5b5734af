-- `clip` meets its contract: each turn writes one clipped rise. The invariant: i rises are clipped. Assumes nothing.
use Rattle.moves.specs.Moves.{Clipped}
use Rattle.moves.proofs.clip.Given as goal

abbrev pub invariant-loop-i : goal.invariant-loop-i
invariant-loop-i l = Clipped l.d l.top l.m l.i l.o
