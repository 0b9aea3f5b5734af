-- Laws of numbers as they are written: the last digit stands behind those of a tenth, and there are one to five of
-- them below 65,536. Assumes nothing.
use mathlib.Core.Path.{◌≡◌}
use mathlib.Core.Logic.{inl, inr}
use mathlib.Core.List.{List, [], ◌∷◌, ◌++◌}
use Prim.Native.Nat.{ℕ, zero, suc, ◌+◌, ◌*◌, ◌^◌, ◌/◌, ◌%◌, ◌≤◌, ◌<◌}
use native.Mathlib.Nat.{pow-suc}
use native.Mathlib.Omega.{arith}
use borrow.Author.Tests.{lt-ltb, le-ltb}
use lib.ListN.{length, length-append}
use Rattle.prelude.proofs.Tests.{lt_or_ge}
use Rattle.text.specs.Decimal.{digits_within, decimal}

tenth_lt : (v : ℕ) → 10 ≤ v → v / 10 < v
tenth_lt v h = omega arith

-- any bound on the count will do
digits_within-enough : (f g v : ℕ) → v < f → v < g → digits_within f v ≡ digits_within g v
digits_within-enough zero g v h k = absurd (omega arith)
digits_within-enough (suc f) zero v h k = absurd (omega arith)
digits_within-enough (suc f) (suc g) v h k =
    elim (lt_or_ge v 10) [
      | inl l ↦ rw (lt-ltb v 10 l, digits_within)
      | inr l ↦
          let t = tenth_lt v l in
          rw (le-ltb v 10 l, digits_within, digits_within-enough f g (v / 10) (omega arith) (omega arith))
    ]

pub decimal_digit : (v : ℕ) → v < 10 → decimal v ≡ (48 + v) ∷ []
decimal_digit v h = rw (lt-ltb v 10 h, digits_within)

pub decimal-more : (v : ℕ) → 10 ≤ v → decimal v ≡ decimal (v / 10) ++ (48 + v % 10) ∷ []
decimal-more v h =
    let t = tenth_lt v h in
    rw (le-ltb v 10 h, digits_within, digits_within-enough v (suc (v / 10)) (v / 10) (omega arith) (omega arith))

-- v below 10 ^ (k + 1) has at most k + 1 digits
pub length-decimal_le : (k v : ℕ) → v < 10 ^ k * 10 → length (decimal v) ≤ suc k
length-decimal_le zero v h = rw (decimal_digit v (omega arith)) (omega arith)
length-decimal_le (suc k) v h =
    elim (lt_or_ge v 10) [
      | inl l ↦ rw (decimal_digit v l) (omega arith)
      | inr l ↦
          let t : v / 10 < 10 ^ k * 10 = omega (arith, pow-suc 10 k) in
          rw (decimal-more v l, length-append) (omega (arith, length-decimal_le k (v / 10) t))
    ]

-- so there are at most five below 65,536
pub length-decimal_16 : (v : ℕ) → v ≤ 65535 → length (decimal v) ≤ 5
length-decimal_16 v h = length-decimal_le 4 v (omega arith)

-- what holds of each digit, and of the digits of v where it holds of those of v / 10, holds of the digits of every v
module _ (P : ℕ → List ℕ → Type 0) (digit : (v : ℕ) → v < 10 → P v ((48 + v) ∷ []))
    (more : (v : ℕ) (s : List ℕ) → 10 ≤ v → P (v / 10) s → P v (s ++ (48 + v % 10) ∷ [])) where
  within : (f v : ℕ) → v < f → P v (digits_within f v)
  within zero v h = absurd (omega arith)
  within (suc f) v h =
      elim (lt_or_ge v 10) [
        | inl l ↦ rw (lt-ltb v 10 l, digits_within) (digit v l)
        | inr l ↦
            let t = tenth_lt v l in
            rw (le-ltb v 10 l, digits_within) (more v (digits_within f (v / 10)) l (within f (v / 10) (omega arith)))
      ]

  pub by_digits : (v : ℕ) → P v (decimal v)
  by_digits v = within (suc v) v (omega arith)
