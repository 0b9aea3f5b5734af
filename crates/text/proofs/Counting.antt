-- Laws of digits that are counted off place by place. A weight is taken off some times more (`off_more`). With one
-- place more the number made is the same and no zero leads, whether the place's digit is left out or put behind the
-- others (`place_none`, `place_one`). With the ones behind them the digits are the number as it is written
-- (`digits_last`), since digits without a leading zero are those of their value. Assumes nothing.
use mathlib.Core.Path.{◌≡◌, refl, sym, ◌∙◌, ap}
use mathlib.Core.Bool.{true, not}
use mathlib.Core.List.{List, [], ◌∷◌, ◌++◌}
use Prim.Native.Nat.{ℕ, ◌+◌, ◌-◌, ◌*◌, ◌≤◌, ◌<◌}
use native.Mathlib.Nat.{add-mul, mul_assoc, mul_left_comm}
use native.Mathlib.Omega.{arith}
use borrow.Author.Tests.{eqb-false, ne_eqb, not-true}
use lib.Dec.{eqb}
use lib.ListN.{length, get_or, length-append}
use Rattle.prelude.specs.Bytes.{every}
use Rattle.prelude.proofs.Tests.{and-true, and_both}
use Rattle.text.specs.Number.{is_digit, is_natural, value_from}
use Rattle.text.specs.Decimal.{decimal}
use Rattle.text.specs.Spelled.{DigitsAre}
use Rattle.text.specs.Places.{CountedOff, no_leading_zero, made, PlacesAre, Placed}
use Rattle.text.specs.declared.digits.Weighed.{Weighed}
use Rattle.text.proofs.Decimal.{decimal_digit}
use Rattle.text.proofs.RoundTrip.{value_from-append, every_append, last-digit}
use Rattle.text.proofs.RoundTrip.{is_natural-first, is_natural-decimal, decimal-value_from}

-- k more of the weights are taken off, which are x
pub off_more : (k x d w l v : ℕ) → x ≡ k * w → x ≤ l → d * w + l ≡ v → (d + k) * w + (l - x) ≡ v
off_more k x d w l v t h e = omega (arith, add-mul d k w)

-- no digits make nothing
value-none : (s : List ℕ) → length s ≡ 0 → value_from 0 s ≡ 0
value-none [] e = refl
value-none (b ∷ s) e = absurd (omega arith)

-- what a digit put behind others makes of their value, and of digits without a leading zero
value-more : (s : List ℕ) (d : ℕ) → value_from 0 (s ++ (48 + d) ∷ []) ≡ 10 * value_from 0 s + d
value-more s d = value_from-append 0 s ((48 + d) ∷ []) ∙ omega arith

every_more : (s : List ℕ) (d : ℕ) → d ≤ 9 → no_leading_zero s ≡ true → every is_digit (s ++ (48 + d) ∷ []) ≡ true
every_more s d h e =
    every_append is_digit s ((48 + d) ∷ []) (and-true (every is_digit s) (not (eqb (get_or s 0 0) 48)) e).0
    (last-digit d (omega arith))

first_more : (s : List ℕ) (d : ℕ) → (d ≡ 0 → length s ≡ 0 → ⊥) → no_leading_zero s ≡ true
    → get_or (s ++ (48 + d) ∷ []) 0 0 ≡ 48 → ⊥
first_more [] d n e z = n (omega arith) refl
first_more (b ∷ s) d n e z =
    eqb-false b 48 (not-true (eqb b 48) (and-true (every is_digit (b ∷ s)) (not (eqb b 48)) e).1) z

leading-more : (s : List ℕ) (d : ℕ) → d ≤ 9 → (d ≡ 0 → length s ≡ 0 → ⊥) → no_leading_zero s ≡ true
    → no_leading_zero (s ++ (48 + d) ∷ []) ≡ true
leading-more s d h n e =
    and_both (every is_digit (s ++ (48 + d) ∷ [])) (not (eqb (get_or (s ++ (48 + d) ∷ []) 0 0) 48)) (every_more s d h e)
    (rw (ne_eqb (get_or (s ++ (48 + d) ∷ []) 0 0) 48 (first_more s d n e)))

natural_more : (s : List ℕ) (d : ℕ) → d ≤ 9 → no_leading_zero s ≡ true → is_natural (s ++ (48 + d) ∷ []) ≡ true
natural_more [] d h e = ap is_natural (sym (decimal_digit d (omega arith))) ∙ is_natural-decimal d
natural_more (b ∷ s) d h e =
    is_natural-first (b ∷ s ++ (48 + d) ∷ []) (every_more (b ∷ s) d h e) (omega arith)
    (first_more (b ∷ s) d (λ z k. omega arith) e)

-- and of the number
made_more : (v d w l k : ℕ) → d * w + l ≡ k → (10 * v + d) * w + l ≡ v * (10 * w) + k
made_more v d w l k e = omega (arith, add-mul (10 * v) d w, mul_assoc 10 v w, mul_left_comm v 10 w)

module _ (w : ℕ) (s : List ℕ) (above : ℕ) (c : Weighed) (are : PlacesAre (10 * w) s above)
    (off : CountedOff above w c) where
  -- the digit is a zero, and none stands before it
  pub place_none : c.digit ≡ 0 → length s ≡ 0 → Placed w s above s c.left
  place_none z n =
      let kept : 0 * w + c.left ≡ above = rw z at off.whole in
      record {
        are = record { leading = are.leading; rest = off.rest };
        kept = rw (value-none s n) (made_more 0 0 w c.left above kept);
        few = omega arith;
      }

  -- the digit is put behind those above
  pub place_one : (c.digit ≡ 0 → length s ≡ 0 → ⊥) → Placed w s above (s ++ (48 + c.digit) ∷ []) c.left
  place_one n =
      let d = c.digit in
      record {
        are = record { leading = leading-more s d off.most n are.leading; rest = off.rest };
        kept = rw (value-more s d) (made_more (value_from 0 s) d w c.left above off.whole);
        few = omega (arith, length-append s ((48 + d) ∷ []));
      }

-- the ones are what the tens leave
pub digits_last : (v : ℕ) (s : List ℕ) (left : ℕ) → made 10 s left ≡ v → PlacesAre 10 s left → length s < 5
    → DigitsAre v (s ++ (48 + left) ∷ [])
digits_last v s left e tens room =
    let written = s ++ (48 + left) ∷ [] in
    let value : value_from 0 written ≡ v = omega (arith, value-more s left) in
    record {
      few = omega (arith, length-append s ((48 + left) ∷ []));
      text =
          sym (decimal-value_from written (natural_more s left (omega (arith, tens.rest)) tens.leading))
          ∙ ap decimal value;
    }
