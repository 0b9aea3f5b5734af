-- `pairs::pack` meets its contract. The invariant: the first 2 i bytes are those of the first i minutes, and the rest
-- is as before. Assumes nothing.
use mathlib.Core.Path.{◌≡◌}
use mathlib.Core.List.{◌++◌}
use Prim.Native.Nat.{◌*◌}
use lib.ListN.{length, take, drop}
use Rattle.pairs.specs.Pairs.{bytes_of}
use Rattle.pairs.proofs.pack.Given as goal

abbrev pub invariant-loop-i : goal.invariant-loop-i
invariant-loop-i l = (length l.bytes ≡ length l.initial.bytes)
    × (l.bytes ≡ bytes_of (take l.i l.table) ++ drop (2 * l.i) l.initial.bytes)
