-- Limits as the code has them, in an i32: a limit fits and is read back, its negation is a limit, and the limit plus
-- 10,080 is at most 20,160 and in the order of the limits. For each sign, around zero and at both ends. Assumes
-- nothing.
use mathlib.Core.Path.{◌≡◌, ap}
use Prim.Native.Nat.{zero, suc, ◌+◌, ◌-◌, ◌≤◌}
use native.Mathlib.Omega.{arith}
use borrow.Author.Tests.{le-ltb, lt-ltb}
use lib.Dec.{le→leb}
use lib.IntN.{ℤ, pos, negsuc, neg_ℤ}
use lib.Signed.{◌≤ℤ◌}
use mir.Syntax.{w32}
use mir.Val.{SFits, to_z, of_z}
use mir.Facts.{to_z-of_z}
use Rattle.network.specs.WellFormed.{InLimits}
use Rattle.network.specs.Biased.{biased, unbiased}

-- a limit fits an i32, and is read back from it
pub limit-fits : (w : ℤ) → InLimits w → SFits w32 w
limit-fits (pos w) h = record { sfits = omega arith }
limit-fits (negsuc w) h = record { sfits = omega arith }

pub read_back : (w : ℤ) → InLimits w → to_z w32 (of_z w32 w) ≡ w
read_back w h = to_z-of_z (limit-fits w h)

-- so is its negation
pub neg_limit : (w : ℤ) → InLimits w → InLimits (neg_ℤ w)
neg_limit (pos zero) h = h
neg_limit (pos (suc w)) h = h
neg_limit (negsuc w) h = h

-- the limit plus 10,080
pub biased-few : (w : ℤ) → InLimits w → biased w ≤ 20160
biased-few (pos w) h = omega arith
biased-few (negsuc w) h = omega arith

-- limits are ordered as they are biased
pub le_biased : (v w : ℤ) → InLimits v → InLimits w → biased v ≤ biased w → v ≤ℤ w
le_biased (pos v) (pos w) h l k = record { le = le→leb v w (omega arith) }
le_biased (pos v) (negsuc w) h l k = absurd (omega arith)
le_biased (negsuc v) (pos w) h l k = record { le = tt }
le_biased (negsuc v) (negsuc w) h l k = record { le = le→leb w v (omega arith) }

-- biased and unbiased, a limit is as it was
pub unbiased-biased : (w : ℤ) → InLimits w → unbiased (biased w) ≡ w
unbiased-biased (pos w) h = rw (le-ltb (10080 + w) 10080 (omega arith)) (ap pos (omega arith))
unbiased-biased (negsuc w) h = rw (lt-ltb (10080 - suc w) 10080 (omega arith)) (ap negsuc (omega arith))
