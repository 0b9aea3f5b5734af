-- What reading a number says of its bytes, and of a range. Assumes nothing.
use mathlib.Core.Path.{◌≡◌, refl}
use mathlib.Core.Logic.{inl, inr}
use mathlib.Core.Bool.{Bool, true, false, cond, and-false}
use mathlib.Core.List.{List}
use Prim.Native.Nat.{ℕ, ◌+◌, ◌≤◌, ◌<◌, min}
use native.Mathlib.Omega.{arith}
use borrow.Author.Tests.{le-leb, lt-leb}
use Rattle.std.specs.Prelude.{Some, None}
use Rattle.prelude.proofs.Tests.{zero-is-one, lt_or_ge}
use Rattle.text.specs.Number.{is_number, is_negative, in_range, magnitude}
use Rattle.text.specs.ReadNumber.{capped, read_number_lem}
use Rattle.text.specs.declared.Number.TheVariants.{Plus, Minus}

-- what a number that was read says of its bytes
pub record ReadAs (most : ℕ) (f : List ℕ) (negative : Bool) (v : ℕ) : Type 0 where
  pub well_formed : is_number f ≡ true
  pub sign : is_negative f ≡ negative
  pub size : min (magnitude f) (most + 1) ≡ v

by_ill : (k m : Bool) (a : ℕ) → cond k (Some (cond m (Minus a) (Plus a))) None ≡ None → k ≡ false
by_ill false m a e = refl
by_ill true true a e = zero-is-one cc
by_ill true false a e = zero-is-one cc

by_plus : (k m : Bool) (a v : ℕ) → cond k (Some (cond m (Minus a) (Plus a))) None ≡ Some (Plus v)
    → (k ≡ true) × (m ≡ false) × (a ≡ v)
by_plus false m a v e = zero-is-one cc
by_plus true true a v e = zero-is-one cc
by_plus true false a v e = (refl, refl, cc)

by_minus : (k m : Bool) (a v : ℕ) → cond k (Some (cond m (Minus a) (Plus a))) None ≡ Some (Minus v)
    → (k ≡ true) × (m ≡ true) × (a ≡ v)
by_minus false m a v e = zero-is-one cc
by_minus true true a v e = (refl, refl, cc)
by_minus true false a v e = zero-is-one cc

module _ (most : ℕ) (f : List ℕ) where
  pub number_ill : read_number_lem most f ≡ None → is_number f ≡ false
  unfolding read_number_lem
  number_ill e = by_ill (is_number f) (is_negative f) (capped most (magnitude f)) e

  pub number_plus : (v : ℕ) → read_number_lem most f ≡ Some (Plus v) → ReadAs most f false v
  unfolding read_number_lem
  number_plus v e =
      let w = by_plus (is_number f) (is_negative f) (capped most (magnitude f)) v e in
      record { well_formed = w.0; sign = w.1; size = w.2 }

  pub number_minus : (v : ℕ) → read_number_lem most f ≡ Some (Minus v) → ReadAs most f true v
  unfolding read_number_lem
  number_minus v e =
      let w = by_minus (is_number f) (is_negative f) (capped most (magnitude f)) v e in
      record { well_formed = w.0; sign = w.1; size = w.2 }

-- of its range
module _ (lo hi : ℕ) (f : List ℕ) where
  -- a well_formed number beyond its range
  abbrev Beyond : Type 0
  Beyond = (is_number f ≡ true) × (in_range lo hi f ≡ false)

  pub range_minus : (v : ℕ) → read_number_lem hi f ≡ Some (Minus v) → Beyond
  unfolding in_range
  range_minus v e = let w = number_minus hi f v e in (w.well_formed, rw w.sign)

  pub range-low : (v : ℕ) → read_number_lem hi f ≡ Some (Plus v) → v < lo → Beyond
  unfolding in_range
  range-low v e h =
      let w = number_plus hi f v e in
      let size = w.size in
      elim (lt_or_ge (magnitude f) lo) [
        | inl p ↦ (w.well_formed, rw (lt-leb lo (magnitude f) p, and-false))
        | inr p ↦ (w.well_formed, rw (lt-leb (magnitude f) hi (omega arith), and-false, and-false))
      ]

  pub range-high : (v : ℕ) → read_number_lem hi f ≡ Some (Plus v) → hi < v → Beyond
  unfolding in_range
  range-high v e h =
      let w = number_plus hi f v e in
      let size = w.size in
      (w.well_formed, rw (lt-leb (magnitude f) hi (omega arith), and-false, and-false))

  pub range_in : (v : ℕ) → read_number_lem hi f ≡ Some (Plus v) → lo ≤ v → v ≤ hi
      → (is_number f ≡ true) × (in_range lo hi f ≡ true) × (magnitude f ≡ v)
  unfolding in_range
  range_in v e l h =
      let w = number_plus hi f v e in
      let size = w.size in (
        w.well_formed,
        rw (le-leb lo (magnitude f) (omega arith), le-leb (magnitude f) hi (omega arith), w.sign),
        omega arith,
      )
