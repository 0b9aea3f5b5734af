-- A field is a well_formed number with a sign exactly where it is a limit as it is written. Assumes nothing.
use mathlib.Core.Path.{◌≡◌, refl, sym, ◌∙◌, ap, ap₂}
use mathlib.Core.Logic.{inl, inr}
use mathlib.Core.Bool.{true, false, ◌&&◌, ◌||◌, not, cond}
use mathlib.Core.List.{List, [], ◌∷◌}
use Prim.Native.Nat.{ℕ, zero, suc, ◌≤◌}
use native.Mathlib.Omega.{arith}
use borrow.Author.Tests.{eqb-true, ne_eqb, eq-eqb}
use lib.Dec.{eqb}
use lib.IntN.{ℤ, pos, negsuc, neg_ℤ}
use lib.ListN.{length, get_or}
use Rattle.prelude.specs.Bytes.{every}
use Rattle.prelude.proofs.Tests.{either, clash, and-true, by_cond}
use Rattle.text.specs.Number.{is_digit, is_natural, is_negative, unsigned, is_number, magnitude, value_of}
use Rattle.text.specs.Number.{value_from}
use Rattle.text.specs.Decimal.{decimal}
use Rattle.text.specs.Lines.{plain}
use Rattle.text.proofs.RoundTrip.{value_from-decimal, is_natural-decimal, decimal-value_from}
use Rattle.text.proofs.Numbers.{positive, is_number_decimal, magnitude-decimal, plain-decimal}
use Rattle.network.specs.Limits as L
use Rattle.network.specs.WellFormed.{InLimits}
use Rattle.layout.specs.Layout.{signed_text}

-- a limit is written so, with its sign
pub signed_text_value_of : (f : List ℕ) → is_number f ≡ true → signed_text (value_of f) ≡ f
unfolding is_number
signed_text_value_of [] e = clash false e refl
signed_text_value_of (b ∷ s) e =
    let t = and-true (is_natural (unsigned (b ∷ s))) (not (eqb b 45 && eqb (get_or s 0 0) 48)) e in
    elim (either (eqb b 45)) [
      | inl p ↦
          rw (p, cond) (
          negative s (rw p at t.0) (rw p at t.1) (eqb-true b 45 p) (value_from 0 s) refl
          )
      | inr p ↦ rw (p, cond) (decimal-value_from (b ∷ s) (rw p at t.0))
    ]
  where
    negative : (s : List ℕ) → is_natural s ≡ true → not (eqb (get_or s 0 0) 48) ≡ true → b ≡ 45
        → (v : ℕ) → value_from 0 s ≡ v → signed_text (neg_ℤ (pos v)) ≡ b ∷ s
    negative s n z m zero w =
        let d : decimal 0 ≡ s = ap decimal (sym w) ∙ decimal-value_from s n in
        clash false (rw (← d) at z) refl
    negative s n z m (suc v) w =
        let d : decimal (suc v) ≡ s = ap decimal (sym w) ∙ decimal-value_from s n in
        ap₂ (λ (x : ℕ) (t : List ℕ). x ∷ t) (sym m) d

-- the size of a limit
abbrev size_of : ℤ → ℕ
size_of (pos n) = n
size_of (negsuc n) = suc n

size_of_negℤ : (v : ℕ) → size_of (neg_ℤ (pos v)) ≡ v
size_of_negℤ zero = refl
size_of_negℤ (suc v) = refl

in_limits : (z : ℤ) → size_of z ≤ L.horizon → InLimits z
in_limits (pos n) h = h
in_limits (negsuc n) h = h

size_le : (z : ℤ) → InLimits z → size_of z ≤ L.horizon
size_le (pos n) h = h
size_le (negsuc n) h = h

pub value_of_limits : (f : List ℕ) → magnitude f ≤ L.horizon → InLimits (value_of f)
value_of_limits f h =
    in_limits (value_of f)
    (by_cond (λ z. size_of z ≤ L.horizon) (is_negative f) (neg_ℤ (pos (magnitude f))) (pos (magnitude f))
    (λ e. omega (arith, size_of_negℤ (magnitude f)))
    (λ e. h))

-- only 0 begins with a zero
zero-first : (f : List ℕ) → is_natural f ≡ true → get_or f 0 0 ≡ 48 → value_from 0 f ≡ 0
zero-first [] e z = refl
zero-first (b ∷ s) e z =
    let p = and-true (every is_digit (b ∷ s)) (not (eqb b 48) || eqb (length s) 0) e in
    alone s (eqb-true (length s) 0 (rw (eq-eqb b 48 z) at p.1))
  where
    alone : (s : List ℕ) → length s ≡ 0 → value_from 0 (b ∷ s) ≡ 0
    alone [] h = omega arith
    alone (a ∷ s) h = absurd (omega arith)

-- a number with its sign is well formed, and its size is as it was
is_number_minus : (f : List ℕ) → is_natural f ≡ true → (get_or f 0 0 ≡ 48 → ⊥) → is_number (45 ∷ f) ≡ true
unfolding is_number
is_number_minus f e h = rw (e, ne_eqb (get_or f 0 0) 48 h)

pub is_number_signed_text : (z : ℤ) → is_number (signed_text z) ≡ true
is_number_signed_text (pos n) = is_number_decimal n
is_number_signed_text (negsuc n) =
    is_number_minus (decimal (suc n)) (is_natural-decimal (suc n))
    (λ e. omega (arith, value_from-decimal (suc n), zero-first (decimal (suc n)) (is_natural-decimal (suc n)) e))

pub value_of_signed_text : (z : ℤ) → value_of (signed_text z) ≡ z
value_of_signed_text (pos n) = rw (positive n, cond, value_from-decimal n)
value_of_signed_text (negsuc n) = ap (λ (v : ℕ). neg_ℤ (pos v)) (value_from-decimal (suc n))

pub magnitude-signed_text : (z : ℤ) → InLimits z → magnitude (signed_text z) ≤ L.horizon
magnitude-signed_text (pos n) h = omega (arith, magnitude-decimal n)
magnitude-signed_text (negsuc n) h = omega (arith, value_from-decimal (suc n))

pub plain-signed_text : (z : ℤ) → every plain (signed_text z) ≡ true
plain-signed_text (pos n) = plain-decimal n
plain-signed_text (negsuc n) = plain-decimal (suc n)
