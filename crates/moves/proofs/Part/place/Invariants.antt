-- `place` meets its contract: a cell is written only if it fits, so a table that is finished fits everywhere. The
-- invariant: i cells are placed. Assumes nothing.
use Rattle.std.proofs.Common.{◌≡◌, length}
use Rattle.moves.specs.Moves.{Placed}
use Rattle.moves.proofs.Part.place.Given as goal

abbrev pub invariant-loop-i : goal.invariant-loop-i
invariant-loop-i l = (length l.o ≡ 256) × Placed l.t l.d l.self.lo l.self.hi l.j l.horizon l.i l.o
