-- Laws of the text of a cell: what an answer of `read_number` says of it, that a dash is blank and digits are not, and
-- both round trips. Assumes nothing.
use mathlib.Core.Path.{◌≡◌, refl, sym, ◌∙◌, ap}
use mathlib.Core.Logic.{inl, inr}
use mathlib.Core.Bool.{true, false, cond}
use mathlib.Core.List.{List, [], ◌∷◌}
use Prim.Native.Nat.{ℕ, ◌≤◌, ◌<◌}
use Rattle.std.specs.Prelude.{Some, None}
use native.Mathlib.Omega.{arith}
use Rattle.prelude.proofs.Options.{then_some_none, then_some_some}
use Rattle.prelude.specs.Bytes.{ascii}
use Rattle.prelude.proofs.Tests.{either, and-true, and_both, eq_or_ne}
use Rattle.prelude.proofs.Bytes.{same_true}
use Rattle.text.specs.Number.{is_number, is_negative, in_range, magnitude}
use Rattle.text.specs.Decimal.{decimal}
use Rattle.text.specs.ReadNumber.{read_number_lem}
use Rattle.text.specs.declared.Number.TheVariants as Num
use Rattle.text.proofs.ReadAs.{number_ill, range_minus, range-high, range_in}
use Rattle.text.proofs.Numbers.{positive, is_number_decimal, magnitude-decimal, in_range-decimal, decimal-magnitude}
use Rattle.network.specs.Limits as L
use Rattle.listing.specs.Listing.{time_text}
use Rattle.listing.proofs.Times.{time_text-blank, time_text-time}
use Rattle.readback.specs.Minute.{latest, is_blank, is_minute, minute_of}
use Rattle.readback.specs.Answers.{digits_in_lem, minute_in_lem}

-- what an answer says of the text
module _ (f : List ℕ) where
  pub digits_ill : read_number_lem latest f ≡ None → None ≡ digits_in_lem f
  digits_ill e = rw (number_ill latest f e)

  beyond : (is_number f ≡ true) × (in_range 0 latest f ≡ false) → None ≡ digits_in_lem f
  beyond p = rw (p.0, p.1)

  pub digits_minus : (v : ℕ) → read_number_lem latest f ≡ Some (Num.Minus v) → None ≡ digits_in_lem f
  digits_minus v e = beyond (range_minus 0 latest f v e)

  pub digits_beyond : (v : ℕ) → read_number_lem latest f ≡ Some (Num.Plus v) → latest < v → None ≡ digits_in_lem f
  digits_beyond v e h = beyond (range-high 0 latest f v e h)

  pub digits_at : (v : ℕ) → read_number_lem latest f ≡ Some (Num.Plus v) → v ≤ latest → Some v ≡ digits_in_lem f
  digits_at v e h = let p = range_in 0 latest f v e (omega arith) h in rw (p.0, p.1, p.2)

  -- a dash, and any other text
  pub minute-blank : is_blank f ≡ true → Some L.blank ≡ minute_in_lem f
  unfolding is_minute minute_of
  minute-blank e = rw e

  pub minute_digits : is_blank f ≡ false → digits_in_lem f ≡ minute_in_lem f
  unfolding is_minute minute_of
  minute_digits e = rw e

-- what the answer on a text says
module _ (f : List ℕ) where
  pub not_a_minute : minute_in_lem f ≡ None → is_minute f ≡ false
  not_a_minute e = then_some_none (is_minute f) (minute_of f) e

  pub a_minute : (v : ℕ) → minute_in_lem f ≡ Some v → (is_minute f ≡ true) × (minute_of f ≡ v)
  a_minute v e = then_some_some (is_minute f) (minute_of f) v e

-- what has no sign is not blank
unsigned-not-blank : (f : List ℕ) → is_negative f ≡ false → is_blank f ≡ false
unsigned-not-blank [] e = refl
unsigned-not-blank (b ∷ s) e = rw e

-- what is written is a minute, and reads as it was
module _ (v : ℕ) (h : v ≤ L.blank) where
  pub is_minute-time_text : is_minute (time_text v) ≡ true
  unfolding is_minute
  is_minute-time_text =
      elim (eq_or_ne v L.blank) [
        | inl p ↦ rw (time_text-blank v p)
        | inr p ↦
            rw (time_text-time v p, unsigned-not-blank (decimal v) (positive v))
            (and_both (is_number (decimal v)) (in_range 0 latest (decimal v)) (is_number_decimal v)
            (in_range-decimal v 0 latest (omega arith) (omega arith)))
      ]

  pub minute_of-time_text : minute_of (time_text v) ≡ v
  unfolding minute_of
  minute_of-time_text =
      elim (eq_or_ne v L.blank) [
        | inl p ↦ rw (time_text-blank v p, p)
        | inr p ↦ rw (time_text-time v p, unsigned-not-blank (decimal v) (positive v), cond) (magnitude-decimal v)
      ]

-- what is a minute is written as it was
module _ (f : List ℕ) (e : is_minute f ≡ true) where
  blank : is_blank f ≡ true → (f ≡ ascii "-") × (minute_of f ≡ L.blank)
  unfolding minute_of
  blank p = (same_true f (ascii "-") p, rw p)

  digits : is_blank f ≡ false → (decimal (magnitude f) ≡ f) × (magnitude f ≤ latest) × (minute_of f ≡ magnitude f)
  unfolding is_minute minute_of
  digits p =
      let q = and-true (is_number f) (in_range 0 latest f) (rw p at e) in
      let w = decimal-magnitude 0 latest f q.0 q.1 in
      (w.0, w.2, rw p)

  pub time_text-minute_of : time_text (minute_of f) ≡ f
  time_text-minute_of =
      elim (either (is_blank f)) [
        | inl p ↦ time_text-blank (minute_of f) (blank p).1 ∙ sym (blank p).0
        | inr p ↦
            let w = digits p in
            time_text-time (minute_of f) (λ z. omega (arith, w.1, w.2)) ∙ ap decimal w.2 ∙ w.0
      ]

  pub minute_of_le : minute_of f ≤ L.blank
  minute_of_le =
      elim (either (is_blank f)) [
        | inl p ↦ omega (arith, (blank p).1)
        | inr p ↦ let w = digits p in omega (arith, w.1, w.2)
      ]
