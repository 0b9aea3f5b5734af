-- The difference of two times as a signed number, and the bounds on it. Times are below 2^16, so it fits 32 bits with
-- its sign. Assumes nothing.
use mathlib.Core.Path.{◌≡◌, sym, ◌∙◌, ap₂}
use mathlib.Core.Logic.{inl, inr}
use Prim.Native.Nat.{ℕ, zero, suc, ◌+◌, ◌-◌, ◌≤◌, ◌<◌}
use native.Mathlib.Omega.{arith}
use borrow.Author.Tests.{leb-true, le-leb, lt-leb, ltb-true, ltb-false}
use mir.Syntax.{w32}
use mir.Val.{SFits, to_z, of_z}
use mir.Facts.{to_z_pos, to_z-of_z}
use lib.Dec.{leb, ltb}
use lib.IntN.{ℤ, pos, negsuc, ◌-ℤ◌}
use lib.Signed.{le_z}
use Rattle.prelude.proofs.Tests.{either, clash, by_cond, false_of_not-true}
use Rattle.network.specs.Constraint.{at_most, at_least, admits}
use Rattle.network.specs.declared.Kind.TheVariants.{Max, Min}

-- b - a
data Difference (a b : ℕ) : ℤ → Type 0 where
  over : (k : ℕ) → b ≡ a + k → Difference a b (pos k)
  under : (k : ℕ) → a ≡ b + suc k → Difference a b (negsuc k)

difference : (a b : ℕ) → Difference a b (pos b -ℤ pos a)
difference zero b = over (b + 0) (omega arith)
difference (suc a) b =
    by_cond (Difference (suc a) b) (ltb b (suc a)) (negsuc (suc a - suc b)) (pos (b - suc a))
    (λ e. under (suc a - suc b) (omega (arith, ltb-true b (suc a) e)))
    (λ e. over (b - suc a) (omega (arith, ltb-false b (suc a) e)))

-- two tests of order that say the same are equal
leb_iff : (a b c d : ℕ) → (a ≤ b → c ≤ d) → (c ≤ d → a ≤ b) → leb a b ≡ leb c d
leb_iff a b c d f g =
    elim (either (leb c d)) [
      | inl e ↦ le-leb a b (g (leb-true c d e)) ∙ sym e
      | inr e ↦ false_of_not-true (leb a b) (λ t. clash (leb c d) (le-leb c d (f (leb-true a b t))) e) ∙ sym e
    ]

most : (a b : ℕ) (z w : ℤ) → Difference a b z → le_z z w ≡ at_most a b w
most a b (pos k) (pos w) (over _ e) = leb_iff k w b (a + w) (λ h. omega arith) (λ h. omega arith)
most a b (pos k) (negsuc w) (over _ e) = sym (lt-leb (b + suc w) a (omega arith))
most a b (negsuc k) (pos w) (under _ e) = sym (le-leb b (a + w) (omega arith))
most a b (negsuc k) (negsuc w) (under _ e) = leb_iff w k (b + suc w) a (λ h. omega arith) (λ h. omega arith)

least : (a b : ℕ) (z w : ℤ) → Difference a b z → le_z w z ≡ at_least a b w
least a b (pos k) (pos w) (over _ e) = leb_iff w k (a + w) b (λ h. omega arith) (λ h. omega arith)
least a b (pos k) (negsuc w) (over _ e) = sym (le-leb a (b + suc w) (omega arith))
least a b (negsuc k) (pos w) (under _ e) = sym (lt-leb (a + w) b (omega arith))
least a b (negsuc k) (negsuc w) (under _ e) = leb_iff k w a (b + suc w) (λ h. omega arith) (λ h. omega arith)

-- the times a and b, of 16 bits
module _ (a b : ℕ) (ha : a < 65536) (hb : b < 65536) where
  fits_of : (z : ℤ) → Difference a b z → SFits w32 z
  fits_of (pos k) (over _ e) = record { sfits = omega arith }
  fits_of (negsuc k) (under _ e) = record { sfits = omega arith }

  -- as the machine holds it
  abbrev held : ℤ
  held = to_z w32 b -ℤ to_z w32 a

  held-is : held ≡ pos b -ℤ pos a
  held-is = ap₂ ◌-ℤ◌ (to_z_pos w32 {n = b} (omega arith)) (to_z_pos w32 {n = a} (omega arith))

  is_difference : Difference a b held
  is_difference = rw held-is (difference a b)

  pub held_fits : SFits w32 held
  held_fits = fits_of held is_difference

  -- what the two comparisons with the bound w say
  module _ (w : ℤ) (hw : SFits w32 w) where
    pub max-kept : le_z (to_z w32 (of_z w32 held)) (to_z w32 (of_z w32 w)) ≡ admits Max a b w
    max-kept = rw (to_z-of_z held_fits, to_z-of_z hw) (most a b held w is_difference)

    pub min-kept : le_z (to_z w32 (of_z w32 w)) (to_z w32 (of_z w32 held)) ≡ admits Min a b w
    min-kept = rw (to_z-of_z held_fits, to_z-of_z hw) (least a b held w is_difference)
