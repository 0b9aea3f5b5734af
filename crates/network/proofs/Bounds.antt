-- Two times within a limit: a greater limit allows what a lesser one does, and "at least" is "at most" with the ends
-- swapped and the limit negated. For each sign. Assumes nothing.
use mathlib.Core.Path.{◌≡◌, refl}
use mathlib.Core.Bool.{true}
use Prim.Native.Nat.{ℕ, zero, suc, ◌+◌}
use native.Mathlib.Nat.{add-zero}
use native.Mathlib.Omega.{arith}
use borrow.Author.Tests.{leb-true, le-leb}
use lib.Dec.{leb→le}
use lib.IntN.{ℤ, pos, negsuc, neg_ℤ}
use lib.Signed.{◌≤ℤ◌}
use Rattle.network.specs.Constraint.{at_most, at_least}

pub at_most_mono : (a b : ℕ) (v w : ℤ) → v ≤ℤ w → at_most a b v ≡ true → at_most a b w ≡ true
at_most_mono a b (pos v) (pos w) h e = le-leb b (a + w) (omega (arith, leb-true b (a + v) e, leb→le v w h.le))
at_most_mono a b (pos v) (negsuc w) h e = absurd h.le
at_most_mono a b (negsuc v) (pos w) h e = le-leb b (a + w) (omega (arith, leb-true (b + suc v) a e))
at_most_mono a b (negsuc v) (negsuc w) h e =
    le-leb (b + suc w) a (omega (arith, leb-true (b + suc v) a e, leb→le w v h.le))

pub at_most_neg : (a b : ℕ) (w : ℤ) → at_most b a (neg_ℤ w) ≡ at_least a b w
at_most_neg a b (pos zero) = rw (add-zero a, add-zero b)
at_most_neg a b (pos (suc w)) = refl
at_most_neg a b (negsuc w) = refl
