-- Laws of guarded minima: no guarded value is less, the least is one of them or top, one number more, what it depends
-- on, and what comes before it. Assumes nothing.
use mathlib.Core.Path.{◌≡◌, refl, sym, ◌∙◌}
use mathlib.Core.Logic.{◌⊎◌, inl, inr}
use mathlib.Core.Bool.{Bool, true, false, ◌&&◌, ◌||◌, not, cond}
use mathlib.Core.Bool.{and-true as and-true-right, and-false as and-false-right}
use Prim.Native.Nat.{ℕ, zero, suc, ◌+◌, ◌≤◌, ◌<◌, min}
use native.Mathlib.Numerals.{add-one}
use native.Mathlib.Omega.{arith}
use borrow.Author.Tests.{le-ltb, lt-ltb, leb-true, leb-false, ltb-true, ltb-false}
use lib.Dec.{leb, ltb}
use Rattle.prelude.specs.Bounded.{all_below, min_where}
use Rattle.prelude.proofs.Tests.{either, eq_or_ne, lt_or_ge}

module _ (test : ℕ → Bool) (f : ℕ → ℕ) (top : ℕ) where
  -- the least of the first n
  abbrev up_to : ℕ → ℕ
  up_to n = min_where n test f top

  -- one number more: it counts where its test holds
  counts : (n : ℕ) → test n ≡ true → up_to (suc n) ≡ min (up_to n) (f n)
  counts n e = rw e

  skips : (n : ℕ) → test n ≡ false → up_to (suc n) ≡ up_to n
  skips n e = rw e

  pub min_where-more : (n : ℕ) → test n ≡ true → up_to (n + 1) ≡ min (up_to n) (f n)
  min_where-more n e = rw add-one (counts n e)

  pub min_where_skip : (n : ℕ) → test n ≡ false → up_to (n + 1) ≡ up_to n
  min_where_skip n e = rw add-one (skips n e)

  -- it is at most top, and at most each value that counts
  pub min_where-top : (n : ℕ) → up_to n ≤ top
  min_where-top zero = omega arith
  min_where-top (suc n) =
      let rest = min_where-top n in
      elim (either (test n)) [ inl e ↦ omega (arith, counts n e) | inr e ↦ omega (arith, skips n e) ]

  pub min_where_le : (n k : ℕ) → k < n → test k ≡ true → up_to n ≤ f k
  min_where_le zero k h t = absurd (omega arith)
  min_where_le (suc n) k h t =
      elim (eq_or_ne k n) [
        | inl q ↦ rw q (omega (arith, counts n (rw q at t)))
        | inr q ↦
            let rest = min_where_le n k (omega arith) t in
            elim (either (test n)) [ inl e ↦ omega (arith, counts n e) | inr e ↦ omega (arith, skips n e) ]
      ]

  -- and what is at most all of these is at most it
  pub le_min_where : (n m : ℕ) → m ≤ top → ((k : ℕ) → k < n → test k ≡ true → m ≤ f k) → m ≤ up_to n
  le_min_where zero m l h = l
  le_min_where (suc n) m l h =
      let rest = le_min_where n m l (λ k b. h k (omega arith)) in
      elim (either (test n)) [
        | inl e ↦ omega (arith, counts n e, h n (omega arith) e)
        | inr e ↦ omega (arith, skips n e)
      ]

  -- it is top, or the value at a number that counts
  pub record LeastAt (n m : ℕ) : Type 0 where
    pub place : ℕ
    pub place_lt : place < n
    pub counted : test place ≡ true
    pub is : f place ≡ m

  later : {n m : ℕ} → LeastAt n m → LeastAt (suc n) m
  later a = record { place = a.place; place_lt = omega (arith, a.place_lt); counted = a.counted; is = a.is }

  kept : {n : ℕ} → (up_to n ≡ top) ⊎ LeastAt n (up_to n) → (up_to n ≡ top) ⊎ LeastAt (suc n) (up_to n)
  kept (inl p) = inl p
  kept (inr a) = inr (later a)

  met : (n : ℕ) → (up_to n ≡ top) ⊎ LeastAt n (up_to n) → test n ≡ true
      → (min (up_to n) (f n) ≡ top) ⊎ LeastAt (suc n) (min (up_to n) (f n))
  met n rest e = elim (lt_or_ge (f n) (up_to n)) [
    | inl l ↦
        let least : min (up_to n) (f n) ≡ f n = omega arith in
        rw least (inr (record { place = n; place_lt = omega arith; counted = e; is = refl }))
    | inr l ↦ let least : min (up_to n) (f n) ≡ up_to n = omega arith in rw least (kept rest)
  ]

  pub min_where_attained : (n : ℕ) → (up_to n ≡ top) ⊎ LeastAt n (up_to n)
  min_where_attained zero = inl refl
  min_where_attained (suc n) =
      let rest = min_where_attained n in
      elim (either (test n)) [ inl e ↦ rw (counts n e) (met n rest e) | inr e ↦ rw (skips n e) (kept rest) ]

-- it depends on the tests and the values below n only
pub min_where_ext : (test other : ℕ → Bool) (f g : ℕ → ℕ) (top n : ℕ) → ((k : ℕ) → k < n → test k ≡ other k)
    → ((k : ℕ) → k < n → f k ≡ g k) → min_where n test f top ≡ min_where n other g top
min_where_ext test other f g top zero t h = refl
min_where_ext test other f g top (suc n) t h =
    rw (
      t n (omega arith),
      h n (omega arith),
      min_where_ext test other f g top n (λ k l. t k (omega arith)) (λ k l. h k (omega arith)),
    )

-- numbers from k on that do not count change nothing
pub min_where-fewer : (test : ℕ → Bool) (f : ℕ → ℕ) (top k n : ℕ) → k ≤ n
    → ((j : ℕ) → k ≤ j → j < n → test j ≡ false) → min_where n test f top ≡ min_where k test f top
min_where-fewer test f top k zero l h = let none : k ≡ 0 = omega arith in rw none
min_where-fewer test f top k (suc n) l h =
    elim (eq_or_ne k (suc n)) [
      | inl e ↦ rw e
      | inr e ↦
          skips test f top n (h n (omega arith) (omega arith))
          ∙ min_where-fewer test f top k n (omega arith) (λ j a b. h j a (omega arith))
    ]

-- with a lesser top it is the lesser of that and it
pub min_where-lesser : (test : ℕ → Bool) (f : ℕ → ℕ) (m top n : ℕ) → m ≤ top
    → min_where n test f m ≡ min m (min_where n test f top)
min_where-lesser test f m top zero l = omega arith
min_where-lesser test f m top (suc n) l =
    let rest = min_where-lesser test f m top n l in
    elim (either (test n)) [
      | inl e ↦ omega (arith, counts test f m n e, counts test f top n e)
      | inr e ↦ omega (arith, skips test f m n e, skips test f top n e)
    ]

-- where no value is more than c above its fellow, the least is not
pub min_where-near : (test : ℕ → Bool) (f g : ℕ → ℕ) (a b c n : ℕ) → a ≤ b + c
    → ((k : ℕ) → k < n → test k ≡ true → f k ≤ g k + c) → min_where n test f a ≤ min_where n test g b + c
min_where-near test f g a b c zero l h = l
min_where-near test f g a b c (suc n) l h =
    let rest = min_where-near test f g a b c n l (λ k i. h k (omega arith)) in
    elim (either (test n)) [
      | inl e ↦ omega (arith, counts test f a n e, counts test g b n e, h n (omega arith) e)
      | inr e ↦ omega (arith, skips test f a n e, skips test g b n e)
    ]

-- a number below top comes before it exactly where it comes before each value that is not passed over
pub before-min_where : (over : ℕ → Bool) (f : ℕ → ℕ) (top t n : ℕ) → t < top
    → ltb t (min_where n (λ k. not (over k)) f top) ≡ all_below n (λ k. over k || not (leb (f k) t))
before-min_where over f top t zero l = lt-ltb t top l
before-min_where over f top t (suc n) l =
    one_more (min_where n (λ k. not (over k)) f top) (f n) (over n) ∙ rw (before-min_where over f top t n l) where
      one_more : (m v : ℕ) (b : Bool) → ltb t (cond (not b) (min m v) m) ≡ ltb t m && (b || not (leb v t))
      one_more m v true = sym (and-true-right (ltb t m))
      one_more m v false =
          elim (either (leb v t)) [
            | inl e ↦ rw (e, le-ltb t (min m v) (omega (arith, leb-true v t e))) (sym (and-false-right (ltb t m)))
            | inr e ↦
                elim (either (ltb t m)) [
                  | inl d ↦ rw (e, d, lt-ltb t (min m v) (omega (arith, ltb-true t m d, leb-false v t e)))
                  | inr d ↦ rw (e, d, le-ltb t (min m v) (omega (arith, ltb-false t m d)))
                ]
          ]

-- a value that does not count is as good as top
pub min_where_guarded : (guard test : ℕ → Bool) (f : ℕ → ℕ) (top n : ℕ)
    → min_where n (λ k. guard k && test k) f top ≡ min_where n test (λ k. cond (guard k) (f k) top) top
min_where_guarded guard test f top zero = refl
min_where_guarded guard test f top (suc n) =
    let rest = min_where_guarded guard test f top n in
    let low = min_where-top test (λ k. cond (guard k) (f k) top) top n in
    elim (either (guard n)) [
      | inl g ↦ rw (g, rest)
      | inr g ↦ elim (either (test n)) [ inl e ↦ rw (g, e) (omega (arith, rest, low)) | inr e ↦ rw (g, e) rest ]
    ]
