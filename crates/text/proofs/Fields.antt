-- Laws of fields in their line: field k is the part of the line from its start to its end (`field-part`), and what
-- stands there up to the next comma (`up_to_field`). Assumes nothing.
use mathlib.Core.Path.{◌≡◌, refl, sym, ap}
use mathlib.Core.Logic.{inl, inr}
use mathlib.Core.List.{List, [], ◌∷◌}
use Prim.Native.Nat.{ℕ, zero, suc, ◌+◌, ◌-◌, ◌≤◌, ◌<◌}
use native.Mathlib.Omega.{arith}
use borrow.Author.Tests.{eq-eqb, ne_eqb}
use lib.ListN.{length, take, drop}
use Rattle.prelude.proofs.Tests.{eq_or_ne}
use Rattle.text.specs.Lines.{comma, up_to, fields, field, into_first}
use Rattle.text.specs.Cuts.{end_of, start_of}
use Rattle.text.proofs.Lines.{up_to_le, take_up_to}

-- a line's first byte is a comma, or a byte of the first field
pub fields-comma : (b : ℕ) (s : List ℕ) → b ≡ comma → fields (b ∷ s) ≡ [] ∷ fields s
fields-comma b s e = rw (eq-eqb b comma e, fields)

pub fields_byte : (b : ℕ) (s : List ℕ) → (b ≡ comma → ⊥) → fields (b ∷ s) ≡ into_first b (fields s)
fields_byte b s n = rw (ne_eqb b comma n, fields)

pub length-into_first : (b : ℕ) (fs : List (List ℕ)) → length (into_first b fs) ≡ length fs
length-into_first b [] = refl
length-into_first b (f ∷ fs) = refl

-- there is always a first field
pub 1-le-fields : (l : List ℕ) → 1 ≤ length (fields l)
1-le-fields [] = omega arith
1-le-fields (b ∷ s) =
    elim (eq_or_ne b comma) [
      | inl e ↦ rw (fields-comma b s e) (omega arith)
      | inr n ↦ rw (fields_byte b s n, length-into_first) (1-le-fields s)
    ]

pub end_of_into_first : (b k : ℕ) (fs : List (List ℕ)) → 1 ≤ length fs → end_of k (into_first b fs) ≡ suc (end_of k fs)
end_of_into_first b k [] h = absurd (omega arith)
end_of_into_first b zero (f ∷ fs) h = refl
end_of_into_first b (suc k) (f ∷ fs) h = omega arith

start_of_cons : (k : ℕ) (f : List ℕ) (fs : List (List ℕ)) → start_of (suc k) (f ∷ fs) ≡ suc (length f + start_of k fs)
start_of_cons zero f fs = omega arith
start_of_cons (suc k) f fs = omega arith

start_of_into_first : (b k : ℕ) (fs : List (List ℕ)) → 1 ≤ length fs
    → start_of (suc k) (into_first b fs) ≡ suc (start_of (suc k) fs)
start_of_into_first b k fs h = omega (arith, end_of_into_first b k fs h)

field-into_first : (b k : ℕ) (fs : List (List ℕ)) → field (suc k) (into_first b fs) ≡ field (suc k) fs
field-into_first b k [] = refl
field-into_first b k (f ∷ fs) = refl

first-into_first : (b : ℕ) (fs : List (List ℕ)) → 1 ≤ length fs → field 0 (into_first b fs) ≡ b ∷ field 0 fs
first-into_first b [] h = absurd (omega arith)
first-into_first b (f ∷ fs) h = refl

-- a field's end is its start and its length
pub end_of_is : (k : ℕ) (fs : List (List ℕ)) → k < length fs → end_of k fs ≡ start_of k fs + length (field k fs)
end_of_is k [] h = absurd (omega arith)
end_of_is zero (f ∷ fs) h = omega arith
end_of_is (suc k) (f ∷ fs) h = omega (arith, start_of_cons k f fs, end_of_is k fs (omega arith))

end_of_byte : (k b : ℕ) (s : List ℕ) → (b ≡ comma → ⊥) → end_of k (fields s) ≤ length s
    → end_of k (fields (b ∷ s)) ≤ suc (length s)
end_of_byte k b s n h = rw (fields_byte b s n) (omega (arith, end_of_into_first b k (fields s) (1-le-fields s)))

pub end_of_le : (k : ℕ) (l : List ℕ) → k < length (fields l) → end_of k (fields l) ≤ length l
end_of_le zero [] h = omega arith
end_of_le (suc k) [] h = absurd (omega arith)
end_of_le zero (b ∷ s) h =
    elim (eq_or_ne b comma) [
      | inl e ↦ rw (fields-comma b s e) (omega arith)
      | inr n ↦ end_of_byte zero b s n (end_of_le zero s (1-le-fields s))
    ]
end_of_le (suc k) (b ∷ s) h =
    elim (eq_or_ne b comma) [
      | inl e ↦
          let m : suc k < suc (length (fields s)) = rw (fields-comma b s e) at h in
          rw (fields-comma b s e) (omega (arith, end_of_le k s (omega arith)))
      | inr n ↦ end_of_byte (suc k) b s n (end_of_le (suc k) s (rw (fields_byte b s n, length-into_first) at h))
    ]

-- field k is what stands from its start up to the next comma
pub up_to_field : (k : ℕ) (l : List ℕ) → k < length (fields l)
    → up_to comma (drop (start_of k (fields l)) l) ≡ field k (fields l)
up_to_field zero [] h = refl
up_to_field (suc k) [] h = absurd (omega arith)
up_to_field zero (b ∷ s) h =
    elim (eq_or_ne b comma) [
      | inl e ↦ rw (fields-comma b s e, eq-eqb b comma e, up_to)
      | inr n ↦
          rw (
            fields_byte b s n,
            ne_eqb b comma n,
            up_to,
            first-into_first b (fields s) (1-le-fields s),
            up_to_field zero s (1-le-fields s),
          )
    ]
up_to_field (suc k) (b ∷ s) h =
    elim (eq_or_ne b comma) [
      | inl e ↦
          let m : suc k < suc (length (fields s)) = rw (fields-comma b s e) at h in
          let z : start_of (suc k) ([] ∷ fields s) ≡ suc (start_of k (fields s)) =
          omega (arith, start_of_cons k [] (fields s)) in
          rw (fields-comma b s e, z) (up_to_field k s (omega arith))
      | inr n ↦
          let m : suc k < length (fields s) = rw (fields_byte b s n, length-into_first) at h in
          rw (fields_byte b s n, field-into_first, start_of_into_first b k (fields s) (1-le-fields s))
          (up_to_field (suc k) s m)
    ]

pub field-part : (k : ℕ) (l : List ℕ) → k < length (fields l)
    → field k (fields l) ≡ take (end_of k (fields l) - start_of k (fields l)) (drop (start_of k (fields l)) l)
field-part k l h =
    let e : end_of k (fields l) - start_of k (fields l) ≡ length (field k (fields l)) =
    omega (arith, end_of_is k (fields l) h) in
    rw (e, ← up_to_field k l h) (sym (take_up_to comma (drop (start_of k (fields l)) l)))

-- the first field is a part of its line, and a line of one field is that field
pub first_field : (l : List ℕ) → length (field 0 (fields l)) ≤ length l
first_field l = rw (← up_to_field 0 l (1-le-fields l)) (up_to_le comma l)

pub only-field : (l : List ℕ) → length (fields l) ≡ 1 → field 0 (fields l) ≡ l
only-field [] h = refl
only-field (b ∷ s) h =
    elim (eq_or_ne b comma) [
      | inl e ↦ absurd (let n = ap length (fields-comma b s e) in omega (arith, 1-le-fields s))
      | inr n ↦
          let one : length (fields s) ≡ 1 = rw (fields_byte b s n, length-into_first) at h in
          rw (fields_byte b s n, first-into_first b (fields s) (1-le-fields s), only-field s one)
    ]
