-- Laws of bits: what two masks have together is what either has, a power of two has one bit, and a sum of different
-- powers has the bit of each, since it is put together from below. Assumes nothing.
use mathlib.Core.Path.{◌≡◌, refl, ◌∙◌, ap}
use mathlib.Core.Logic.{inl, inr}
use mathlib.Core.Bool.{Bool, true, false, ◌&&◌, ◌||◌, cond, and-true, and-false, or-false}
use Prim.Native.Nat.{ℕ, zero, suc, ◌+◌, ◌-◌, ◌*◌, ◌/◌, ◌%◌, ◌^◌, ◌≤◌, ◌<◌}
use native.Mathlib.Nat.{mod-lt, div-eq_of_lt, zero-mul, one-mul}
use native.Mathlib.Omega.{arith}
use borrow.Author.Tests.{eqb-true, eqb-false, eq-eqb, ne_eqb}
use lib.Bits.{bit_or, or_shr, or_mod, or_disjoint, and_high, or_shifted_r, or_zero_r}
use lib.Dec.{eqb}
use lib.Pow.{pow_pos, shl_exact}
use Rattle.prelude.specs.Bounded.{all_below, sum_below}
use Rattle.prelude.proofs.Bounded.{true_of_all_below}
use Rattle.prelude.proofs.Tests.{eq_or_ne}
use Rattle.network.specs.Scenario.{truth}

-- one bit, shifted: below the width nothing is lost
pub one_shifted : (k w : ℕ) → k < w → (1 * 2 ^ k) % 2 ^ w ≡ 2 ^ k
one_shifted k w h = shl_exact {a = 1} 1 k w (omega arith) (omega arith) ∙ one-mul (2 ^ k)

-- one of two digits is 1
or_digit : (a b : ℕ) → a < 2 → b < 2 → eqb (bit_or a b) 1 ≡ eqb a 1 || eqb b 1
or_digit zero b h l = refl
or_digit (suc zero) zero h l = refl
or_digit (suc zero) (suc zero) h l = refl
or_digit (suc zero) (suc (suc b)) h l = absurd (omega arith)
or_digit (suc (suc a)) b h l = absurd (omega arith)

pub truth_or : (a b k : ℕ) → truth (bit_or a b) k ≡ truth a k || truth b k
truth_or a b k =
    ap (λ (x : ℕ). eqb (x % 2) 1) (or_shr a b k) ∙ ap (λ (x : ℕ). eqb x 1) (or_mod (a / 2 ^ k) (b / 2 ^ k) 1)
    ∙ or_digit (a / 2 ^ k % 2) (b / 2 ^ k % 2) (mod-lt (a / 2 ^ k) (omega arith)) (mod-lt (b / 2 ^ k) (omega arith))

truth_small : (x k : ℕ) → x < 2 ^ k → truth x k ≡ false
truth_small x k h = ap (λ (q : ℕ). eqb (q % 2) 1) (div-eq_of_lt h)

-- a bit that is not there is added
pub add_bit : (x k : ℕ) → truth x k ≡ false → bit_or x (2 ^ k) ≡ x + 2 ^ k
add_bit x k e =
    let one : 1 + k ≡ suc k = omega arith in
    let power : 2 ^ suc k - 2 ^ k ≡ 2 ^ k = omega arith in
    let small : x / 2 ^ k % 2 < 2 = mod-lt (x / 2 ^ k) (omega arith) in
    let digit : x / 2 ^ k % 2 ≡ 0 = omega (arith, eqb-false (x / 2 ^ k % 2) 1 e) in
    or_disjoint x (2 ^ k) (rw (one, power, digit, zero-mul) at (and_high x 1 k))

-- the digit of a test
abbrev digit : Bool → ℕ
digit b = cond b 1 0

digit-is : (b : Bool) → eqb (digit b) 1 ≡ b
digit-is true = refl
digit-is false = refl

-- a power of two has its own bit alone: a test for all pairs below 64
abbrev one_bit : ℕ → ℕ → Bool
one_bit j k = eqb (2 ^ j / 2 ^ k % 2) (digit (eqb j k))

powers : all_below 64 (λ j. all_below 64 (one_bit j)) ≡ true
powers = refl

pub truth-power : (j k : ℕ) → j < 64 → k < 64 → truth (2 ^ j) k ≡ eqb j k
truth-power j k h l =
    let tested = true_of_all_below (one_bit j) 64 (true_of_all_below (λ j. all_below 64 (one_bit j)) 64 powers j h) k
    l in
    ap (λ (x : ℕ). eqb x 1) (eqb-true (2 ^ j / 2 ^ k % 2) (digit (eqb j k)) tested) ∙ digit-is (eqb j k)

-- a power that is in or not
abbrev weight : Bool → ℕ → ℕ
weight b j = cond b (2 ^ j) 0

truth-weight : (b : Bool) (j k : ℕ) → j < 64 → k < 64 → truth (weight b j) k ≡ b && eqb j k
truth-weight true j k h l = truth-power j k h l
truth-weight false j k h l = truth_small 0 k (pow_pos k)

weight_le : (b : Bool) (j : ℕ) → weight b j ≤ 2 ^ j
weight_le true j = omega arith
weight_le false j = omega arith

-- over what is less, it is one more bit
add-weight : (b : Bool) (x j : ℕ) → x < 2 ^ j → x + weight b j ≡ bit_or x (weight b j)
add-weight true x j h = omega (arith, ap (bit_or x) (one-mul (2 ^ j)), or_shifted_r 1 j x h)
add-weight false x j h = omega (arith, or_zero_r x)

module _ (f : ℕ → Bool) where
  pub mask_small : (n : ℕ) → sum_below n (λ u. cond (f u) (2 ^ u) 0) < 2 ^ n
  mask_small zero = omega arith
  mask_small (suc n) = omega (arith, mask_small n, weight_le (f n) n)

  pub truth-mask : (n k : ℕ) → k < n → n ≤ 64 → truth (sum_below n (λ u. cond (f u) (2 ^ u) 0)) k ≡ f k
  truth-mask zero k h l = absurd (omega arith)
  truth-mask (suc n) k h l =
      let x = sum_below n (λ u. cond (f u) (2 ^ u) 0) in
      ap (λ (x : ℕ). truth x k) (add-weight (f n) x n (mask_small n)) ∙ truth_or x (weight (f n) n) k
      ∙ ap (λ (b : Bool). truth x k || b) (truth-weight (f n) n k (omega arith) (omega arith))
      ∙ elim (eq_or_ne n k) [
        | inl q ↦ rw (← q, eq-eqb n n refl, truth_small x n (mask_small n)) (and-true (f n))
        | inr q ↦ rw (ne_eqb n k q, and-false, or-false) (truth-mask n k (omega arith) (omega arith))
      ]
