-- The order of limits: what its test tells, and that it is an order. Assumes nothing.
use mathlib.Core.Path.{◌≡◌, ap}
use mathlib.Core.Bool.{true, false}
use native.Mathlib.Omega.{arith}
use borrow.Author.Tests.{leb-false}
use lib.Dec.{leb→le, le→leb}
use lib.IntN.{ℤ, pos, negsuc}
use lib.Signed.{le_z, ◌≤ℤ◌}
use Rattle.prelude.proofs.Tests.{zero-is-one}

pub le_of_test : (v w : ℤ) → le_z v w ≡ true → v ≤ℤ w
le_of_test v w e = record { le = rw e tt }

pub ge_of_test : (v w : ℤ) → le_z v w ≡ false → w ≤ℤ v
ge_of_test (pos v) (pos w) e = record { le = le→leb w v (omega (arith, leb-false v w e)) }
ge_of_test (pos v) (negsuc w) e = record { le = tt }
ge_of_test (negsuc v) (pos w) e = zero-is-one cc
ge_of_test (negsuc v) (negsuc w) e = record { le = le→leb v w (omega (arith, leb-false w v e)) }

pub ≤ℤ-trans : (u v w : ℤ) → u ≤ℤ v → v ≤ℤ w → u ≤ℤ w
≤ℤ-trans (pos u) (pos v) (pos w) h l =
    record { le = le→leb u w (omega (arith, leb→le u v h.le, leb→le v w l.le)) }
≤ℤ-trans (pos u) (pos v) (negsuc w) h l = absurd l.le
≤ℤ-trans (pos u) (negsuc v) w h l = absurd h.le
≤ℤ-trans (negsuc u) (pos v) (pos w) h l = record { le = tt }
≤ℤ-trans (negsuc u) (pos v) (negsuc w) h l = absurd l.le
≤ℤ-trans (negsuc u) (negsuc v) (pos w) h l = record { le = tt }
≤ℤ-trans (negsuc u) (negsuc v) (negsuc w) h l =
    record { le = le→leb w u (omega (arith, leb→le v u h.le, leb→le w v l.le)) }

pub ≤ℤ-antisym : (v w : ℤ) → v ≤ℤ w → w ≤ℤ v → v ≡ w
≤ℤ-antisym (pos v) (pos w) h l = ap pos (omega (arith, leb→le v w h.le, leb→le w v l.le))
≤ℤ-antisym (pos v) (negsuc w) h l = absurd h.le
≤ℤ-antisym (negsuc v) (pos w) h l = absurd l.le
≤ℤ-antisym (negsuc v) (negsuc w) h l = ap negsuc (omega (arith, leb→le w v h.le, leb→le v w l.le))
