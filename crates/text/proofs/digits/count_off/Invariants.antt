-- `count_off` meets its contract: the weights that are taken off and what is left make v, by threes and by ones alike.
-- The measure is what is left. Assumes nothing.
use mathlib.Core.Path.{◌≡◌}
use Prim.Native.Nat.{◌+◌, ◌*◌}
use Rattle.text.proofs.digits.count_off.Given as goal

abbrev pub invariant-loop-left : goal.invariant-loop-left
invariant-loop-left l = l.digit * l.weight + l.left ≡ l.v

abbrev pub decreases-loop-left : goal.decreases-loop-left
decreases-loop-left l = l.left
