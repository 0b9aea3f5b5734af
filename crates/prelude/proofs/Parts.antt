-- A list by its parts: what stands in it is its first or stands behind it, and what holds of each element of the
-- parts holds of each of the whole, and the other way round. Assumes nothing.
use mathlib.Core.Path.{◌≡◌, refl, ◌∙◌}
use mathlib.Core.Logic.{◌⊎◌, inl, inr}
use mathlib.Core.List.{List, [], ◌∷◌, ◌++◌}
use Prim.Native.Nat.{ℕ, zero, suc, ◌+◌, ◌-◌, ◌<◌}
use native.Mathlib.Omega.{arith}
use lib.ListN.{length, get_or, length-append, get_or-append}
use lib.Seq.{get_or-append-add, get_or-append_seam}
use Rattle.prelude.specs.Lists.{In, Each}
use Rattle.prelude.proofs.Tests.{lt_or_ge}

-- what stands in a list
module _ {A : Type 0} {d x : A} {xs : List A} where
  pub in_first : In x (x ∷ xs) d
  in_first = record { place = 0; place_lt = omega arith; is = refl }

  pub in_later : {y : A} → In y xs d → In y (x ∷ xs) d
  in_later i = record { place = suc i.place; place_lt = omega (arith, i.place_lt); is = i.is }

  -- the first, or one of the others
  pub in_cons : {y : A} → In y (x ∷ xs) d → (x ≡ y) ⊎ In y xs d
  in_cons {y} i = at i.place i.place_lt i.is
    where
      at : (p : ℕ) → p < length (x ∷ xs) → get_or (x ∷ xs) p d ≡ y → (x ≡ y) ⊎ In y xs d
      at zero h e = inl e
      at (suc p) h e = inr (record { place = p; place_lt = omega arith; is = e })

-- what stands in a list stands in a longer one, and the last stands there too
module _ {A : Type 0} (d : A) (xs : List A) where
  pub in_before : {y : A} (ys : List A) → In y xs d → In y (xs ++ ys) d
  in_before ys i = record {
    place = i.place;
    place_lt = omega (arith, i.place_lt, length-append xs ys);
    is = get_or-append xs ys d i.place i.place_lt ∙ i.is;
  }

  pub in_last : (x : A) → In x (xs ++ x ∷ []) d
  in_last x = record {
    place = length xs;
    place_lt = omega (arith, length-append xs (x ∷ []));
    is = get_or-append_seam xs x [] d;
  }

-- what holds of each
module _ {A : Type 0} (P : A → Type 0) (d : A) where
  pub each_none : Each P [] d
  each_none = record { each = λ i h. absurd (omega arith) }

  pub each_cons : (x : A) (xs : List A) → P x → Each P xs d → Each P (x ∷ xs) d
  each_cons x xs p e = record { each = at }
    where
      at : (i : ℕ) → i < length (x ∷ xs) → P (get_or (x ∷ xs) i d)
      at zero h = p
      at (suc i) h = e.each i (omega arith)

  pub each_one : (x : A) → P x → Each P (x ∷ []) d
  each_one x p = each_cons x [] p each_none

  -- of each of two lists
  module _ (xs ys : List A) where
    pub each_append : Each P xs d → Each P ys d → Each P (xs ++ ys) d
    each_append a b = record { each = at }
      where
        at : (i : ℕ) → i < length (xs ++ ys) → P (get_or (xs ++ ys) i d)
        at i h =
            let l = length-append xs ys in
            elim (lt_or_ge i (length xs)) [
              | inl p ↦ rw (get_or-append xs ys d i p) (a.each i p)
              | inr p ↦
                  let e : i ≡ length xs + (i - length xs) = omega arith in
                  rw (e, get_or-append-add xs ys (i - length xs) d) (b.each (i - length xs) (omega arith))
            ]

    pub each_first : Each P (xs ++ ys) d → Each P xs d
    each_first e = record {
      each = λ i h. rw (get_or-append xs ys d i h) at (e.each i (omega (arith, length-append xs ys)));
    }

    pub each-second : Each P (xs ++ ys) d → Each P ys d
    each-second e = record {
      each = λ i h. rw (get_or-append-add xs ys i d) at (e.each (length xs + i) (omega (arith, length-append xs ys)));
    }
