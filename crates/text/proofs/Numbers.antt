-- A field is a count in its range exactly where it is a number as it is written. Assumes nothing.
use mathlib.Core.Path.{◌≡◌, refl, ◌∙◌, ap}
use mathlib.Core.Bool.{true, false, ◌&&◌, ◌||◌, not, cond}
use mathlib.Core.List.{List, [], ◌∷◌}
use Prim.Native.Nat.{ℕ, ◌≤◌}
use native.Mathlib.Omega.{arith}
use borrow.Author.Tests.{leb-true, le-leb, ne_eqb, not-true}
use lib.Dec.{eqb, leb}
use lib.ListN.{length, get_or}
use Rattle.prelude.specs.Bytes.{every}
use Rattle.prelude.proofs.Tests.{clash, and-true}
use Rattle.prelude.proofs.Bytes.{every_mono}
use Rattle.text.specs.Lines.{comma, line_feed, plain}
use Rattle.text.specs.Number.{is_digit, is_natural, is_negative, unsigned, is_number, in_range, magnitude, value_from}
use Rattle.text.specs.Decimal.{decimal}
use Rattle.text.proofs.RoundTrip.{digit-bounds, value_from-decimal, is_natural-decimal, decimal-value_from}

-- bytes other than comma and line feed
pub plain_byte : (b : ℕ) → (b ≡ comma → ⊥) → (b ≡ line_feed → ⊥) → plain b ≡ true
plain_byte b h k = rw (ne_eqb b comma h, ne_eqb b line_feed k)

pub plain-digit : (b : ℕ) → is_digit b ≡ true → plain b ≡ true
plain-digit b e = let p = digit-bounds b e in plain_byte b (λ z. omega arith) (λ z. omega arith)

natural_digits : (f : List ℕ) → is_natural f ≡ true → every is_digit f ≡ true
natural_digits [] e = clash false e refl
natural_digits (b ∷ s) e = (and-true (every is_digit (b ∷ s)) (not (eqb b 48) || eqb (length s) 0) e).0

-- digits have no sign
natural_positive : (f : List ℕ) → is_natural f ≡ true → is_negative f ≡ false
natural_positive [] e = refl
natural_positive (b ∷ s) e =
    let p = digit-bounds b (and-true (is_digit b) (every is_digit s) (natural_digits (b ∷ s) e)).0 in
    ne_eqb b 45 (λ z. omega arith)

module _ (v : ℕ) where
  pub positive : is_negative (decimal v) ≡ false
  positive = natural_positive (decimal v) (is_natural-decimal v)

  pub is_number_decimal : is_number (decimal v) ≡ true
  unfolding is_number
  is_number_decimal = rw (positive, cond, is_natural-decimal v)

  pub magnitude-decimal : magnitude (decimal v) ≡ v
  magnitude-decimal = rw (positive, cond, value_from-decimal v)

  pub in_range-decimal : (lo hi : ℕ) → lo ≤ v → v ≤ hi → in_range lo hi (decimal v) ≡ true
  unfolding in_range
  in_range-decimal lo hi h k = rw (positive, cond, value_from-decimal v, le-leb lo v h, le-leb v hi k)

  pub plain-decimal : every plain (decimal v) ≡ true
  plain-decimal = every_mono is_digit plain plain-digit (decimal v) (natural_digits (decimal v) (is_natural-decimal v))

-- a count in its range is written so
pub decimal-magnitude : (lo hi : ℕ) (f : List ℕ) → is_number f ≡ true → in_range lo hi f ≡ true
    → (decimal (magnitude f) ≡ f) × (lo ≤ magnitude f) × (magnitude f ≤ hi)
unfolding is_number in_range
decimal-magnitude lo hi f e r =
    let p = and-true (not (is_negative f)) (leb lo (magnitude f) && leb (magnitude f) hi) r in
    let q = and-true (leb lo (magnitude f)) (leb (magnitude f) hi) p.1 in
    let n = not-true (is_negative f) p.0 in
    let u : unsigned f ≡ f = rw n in
    let t = and-true (is_natural (unsigned f)) (not (is_negative f && eqb (get_or f 1 0) 48)) e in (
      ap (λ (s : List ℕ). decimal (value_from 0 s)) u ∙ decimal-value_from f (rw u at t.0),
      leb-true lo (magnitude f) q.0,
      leb-true (magnitude f) hi q.1,
    )
