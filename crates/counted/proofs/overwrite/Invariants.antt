-- `overwrite` meets its contract: each turn writes one value. The invariant: the first i values are written. Assumes
-- nothing.
use Rattle.std.proofs.Common.{◌≡◌, length}
use Rattle.std.specs.Prelude.{take}
use Rattle.counted.proofs.overwrite.Given as goal

abbrev pub invariant-loop-i : goal.invariant-loop-i
invariant-loop-i g l = (take l.i l.to ≡ take l.i l.from) × (length l.to ≡ length l.initial.to)
