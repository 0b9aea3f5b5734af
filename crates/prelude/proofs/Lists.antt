-- What stands in a list, once, and what holds of each: so it is in a longer list where it is so in the shorter and of
-- what comes behind; and the tests of the reading find it out. Assumes nothing.
use mathlib.Core.Path.{◌≡◌, refl, sym, ◌∙◌, ap}
use mathlib.Core.Logic.{◌⊎◌, inl, inr}
use mathlib.Core.Bool.{Bool, true, false, not}
use mathlib.Core.List.{List, [], ◌∷◌, ◌++◌}
use Prim.Native.Nat.{ℕ, zero, suc, ◌<◌}
use native.Mathlib.Omega.{arith}
use borrow.Author.Tests.{eqb-true, eq-eqb, not-true}
use lib.Dec.{eqb}
use lib.ListN.{length, get_or, length-append, get_or-append}
use lib.Seq.{get_or-append_seam, ext_get_or}
use Rattle.prelude.specs.Bounded.{tabulate}
use Rattle.prelude.proofs.Bounded.{length-tabulate, get_d_tabulate}
use Rattle.prelude.specs.Bytes.{is_in, every, distinct}
use Rattle.prelude.proofs.Tests.{either, clash, and-true, and_both, or-true, lt_or_ge}
use Rattle.prelude.proofs.Parts.{in_later}
use Rattle.prelude.specs.Lists.{In, Distinct, Each}

module _ {A : Type 0} (d : A) where
  module _ (xs : List A) (x : A) where
    length_snoc : length (xs ++ x ∷ []) ≡ suc (length xs)
    length_snoc = length-append xs (x ∷ []) ∙ omega arith

    -- the last place or one before it
    pub by_place : (P : ℕ → A → Type 0) → ((i : ℕ) → i < length xs → P i (get_or xs i d)) → P (length xs) x
        → (i : ℕ) → i < length (xs ++ x ∷ []) → P i (get_or (xs ++ x ∷ []) i d)
    by_place P f l i h =
        elim (lt_or_ge i (length xs)) [
          | inl p ↦ rw (get_or-append xs (x ∷ []) d i p) (f i p)
          | inr p ↦
              let e : i ≡ length xs = omega (arith, length_snoc) in
              rw (e, get_or-append_seam xs x [] d) l
        ]

    pub each_snoc : (P : A → Type 0) → Each P xs d → P x → Each P (xs ++ x ∷ []) d
    each_snoc P e p = record { each = by_place (λ i. P) e.each p }

    pub each_at : (P : A → Type 0) (ys : List A) → Each P (xs ++ x ∷ ys) d → P x
    each_at P ys e = rw get_or-append_seam at (e.each (length xs) (omega (arith, length-append xs (x ∷ ys))))

    pub distinct_snoc : Distinct xs d → (In x xs d → ⊥) → Distinct (xs ++ x ∷ []) d
    distinct_snoc o n = record {
      once = λ i j h k e.
          by_place (λ i a. (j : ℕ) → j < length (xs ++ x ∷ []) → a ≡ get_or (xs ++ x ∷ []) j d → i ≡ j)
          (λ i p.
          by_place (λ j b. get_or xs i d ≡ b → i ≡ j)
          (λ j q e. o.once i j p q e)
          (λ e. absurd (n (record { place = i; place_lt = p; is = e }))))
          (by_place (λ j b. x ≡ b → length xs ≡ j)
          (λ j q e. absurd (n (record { place = j; place_lt = q; is = sym e })))
          (λ e. refl))
          i
          h
          j
          k
          e;
    }

    pub distinct_new : (ys : List A) → Distinct (xs ++ x ∷ ys) d → In x xs d → ⊥
    distinct_new ys o w =
        let l = length-append xs (x ∷ ys) in
        let h = w.place_lt in
        let e = o.once w.place (length xs) (omega arith) (omega arith)
        (get_or-append xs (x ∷ ys) d w.place h ∙ w.is ∙ sym (get_or-append_seam xs x ys d)) in
        omega arith

-- a test of each element
pub each_of_every : (f : ℕ → Bool) (bs : List ℕ) → every f bs ≡ true → Each (λ b. f b ≡ true) bs 0
each_of_every f bs e = record { each = λ i h. at bs e i h }
  where
    at : (bs : List ℕ) → every f bs ≡ true → (i : ℕ) → i < length bs → f (get_or bs i 0) ≡ true
    at [] e i h = absurd (omega arith)
    at (b ∷ bs) e zero h = (and-true (f b) (every f bs) e).0
    at (b ∷ bs) e (suc i) h = at bs (and-true (f b) (every f bs) e).1 i (omega arith)

pub every_of_each : (f : ℕ → Bool) (bs : List ℕ) → Each (λ b. f b ≡ true) bs 0 → every f bs ≡ true
every_of_each f bs e = at bs (λ i h. e.each i h)
  where
    at : (bs : List ℕ) → ((i : ℕ) → i < length bs → f (get_or bs i 0) ≡ true) → every f bs ≡ true
    at [] h = refl
    at (b ∷ bs) h = and_both (f b) (every f bs) (h 0 (omega arith)) (at bs (λ i l. h (suc i) (omega arith)))

pub each_mono : {A : Type 0} {P Q : A → Type 0} {xs : List A} {d : A} → ((x : A) → P x → Q x) → Each P xs d
    → Each Q xs d
each_mono {xs = xs} {d = d} f e = record { each = λ i h. f (get_or xs i d) (e.each i h) }

-- the test for what stands in a list
in_of_is_in : (b : ℕ) (bs : List ℕ) → is_in b bs ≡ true → In b bs 0
in_of_is_in b [] e = clash false e refl
in_of_is_in b (c ∷ bs) e =
    elim (or-true (eqb b c) (is_in b bs) e) [
      | inl p ↦ record { place = 0; place_lt = omega arith; is = sym (eqb-true b c p) }
      | inr p ↦ in_later (in_of_is_in b bs p)
    ]

is_in-at : (b : ℕ) (bs : List ℕ) (i : ℕ) → i < length bs → get_or bs i 0 ≡ b → is_in b bs ≡ true
is_in-at b [] i h e = absurd (omega arith)
is_in-at b (c ∷ bs) zero h e = rw (eq-eqb b c (sym e))
is_in-at b (c ∷ bs) (suc i) h e =
    elim (either (eqb b c)) [ inl p ↦ rw p | inr p ↦ rw p (is_in-at b bs i (omega arith) e) ]

-- the test for what stands once
pub distinct_of_test : (bs : List ℕ) → distinct bs ≡ true → Distinct bs 0
distinct_of_test bs e = record { once = at bs e }
  where
    at : (bs : List ℕ) → distinct bs ≡ true → (i j : ℕ) → i < length bs → j < length bs → get_or bs i 0
        ≡ get_or bs j 0 → i ≡ j
    at [] e i j h k z = absurd (omega arith)
    at (b ∷ bs) e zero zero h k z = refl
    at (b ∷ bs) e zero (suc j) h k z =
        let p = and-true (not (is_in b bs)) (distinct bs) e in
        clash (is_in b bs) (is_in-at b bs j (omega arith) (sym z)) (not-true (is_in b bs) p.0)
    at (b ∷ bs) e (suc i) zero h k z =
        let p = and-true (not (is_in b bs)) (distinct bs) e in
        clash (is_in b bs) (is_in-at b bs i (omega arith) z) (not-true (is_in b bs) p.0)
    at (b ∷ bs) e (suc i) (suc j) h k z =
        let p = and-true (not (is_in b bs)) (distinct bs) e in
        ap suc (at bs p.1 i j (omega arith) (omega arith) z)

pub test_of_distinct : (bs : List ℕ) → Distinct bs 0 → distinct bs ≡ true
test_of_distinct [] o = refl
test_of_distinct (b ∷ bs) o =
    and_both (not (is_in b bs)) (distinct bs)
    (new (either (is_in b bs)))
    (test_of_distinct bs
    (record { once = λ i j h k e. omega (arith, o.once (suc i) (suc j) (omega arith) (omega arith) e) }))
  where
    new : (is_in b bs ≡ true) ⊎ (is_in b bs ≡ false) → not (is_in b bs) ≡ true
    new (inl p) =
        let w = in_of_is_in b bs p in
        let h = w.place_lt in
        let e = o.once 0 (suc w.place) (omega arith) (omega arith) (sym w.is) in
        absurd (omega arith)
    new (inr p) = rw p

-- what stands at a place
pub in_place : {A : Type 0} {d : A} (xs : List A) (i : ℕ) → i < length xs → In (get_or xs i d) xs d
in_place xs i h = record { place = i; place_lt = h; is = refl }

-- what holds of each holds of what stands there
pub each_in : {A : Type 0} (P : A → Type 0) {x d : A} {xs : List A} → Each P xs d → In x xs d → P x
each_in P e w = rw w.is at (e.each w.place w.place_lt)

-- a list is what stands at its places
pub tabulate-is : {A : Type 0} (f : ℕ → A) (d : A) (n : ℕ) (xs : List A) → n ≡ length xs
    → ((i : ℕ) → i < length xs → f i ≡ get_or xs i d) → tabulate n f ≡ xs
tabulate-is f d n xs e h =
    let l = length-tabulate f n in
    ext_get_or d (tabulate n f) xs (l ∙ e) (λ i k. get_d_tabulate f n i d (omega arith) ∙ h i (omega arith))

pub all_of : {A : Type 0} (d : A) (n : ℕ) (xs : List A) → length xs ≡ n → xs ≡ tabulate n (λ i. get_or xs i d)
all_of d n xs e = sym (tabulate-is (λ i. get_or xs i d) d n xs (sym e) (λ i h. refl))

-- what differs from everything behind it stands once
pub distinct_of_later : {A : Type 0} (d : A) (xs : List A)
    → ((i j : ℕ) → i < j → j < length xs → get_or xs i d ≡ get_or xs j d → ⊥) → Distinct xs d
distinct_of_later d xs f = record {
  once = λ i j h k e.
      elim (lt_or_ge i j) [
        | inl p ↦ absurd (f i j p k e)
        | inr p ↦ elim (lt_or_ge j i) [ inl q ↦ absurd (f j i q h (sym e)) | inr q ↦ omega arith ]
      ];
}
