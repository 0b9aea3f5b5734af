-- The weight of a `min` row, for each sign of its limit, around zero and at both ends: 10,080 more than the limit.
-- Assumes nothing.
use mathlib.Core.Path.{◌≡◌}
use Prim.Native.Nat.{zero, suc}
use native.Mathlib.Omega.{arith}
use lib.IntN.{ℤ, pos, negsuc}
use Rattle.network.specs.Biased.{biased}
use Rattle.bounds.specs.Weight.{lower_weight}

-- the weight of a limit negated is the limit biased
pub neg_weight : (w : ℤ) → lower_weight w ≡ biased w
neg_weight (pos zero) = omega arith
neg_weight (pos (suc w)) = omega arith
neg_weight (negsuc w) = omega arith
