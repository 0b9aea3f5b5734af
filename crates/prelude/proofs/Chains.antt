-- What `all` answers, over the numbers below n and over the front of a list, as the definitions say it; and what it may
-- ask of each item of a list. Assumes nothing.
use mathlib.Core.Path.{◌≡◌, refl, sym, ◌∙◌, ap}
use mathlib.Core.Logic.{inl, inr}
use mathlib.Core.Bool.{Bool, true, false}
use mathlib.Core.List.{List, [], ◌∷◌}
use Prim.Native.Nat.{ℕ, zero, suc, ◌+◌, ◌≤◌, ◌<◌}
use native.Mathlib.Numerals.{add-one}
use native.Mathlib.Omega.{arith}
use lib.ListN.{length, get_or, take, drop, drop_of_length-le}
use lib.Seq.{drop-cons}
use Rattle.std.proofs.Common.{Iter, Bor}
use Rattle.std.specs.Prelude.{Option}
use Rattle.std.specs.Option.{MatchOption}
use Rattle.std.specs.Iterator.{Yields}
use Rattle.std.specs.List.{range_with_len, list_all}
use Rattle.std.proofs.lemmas.List.{get_or-take, length-take-le}
use Rattle.prelude.specs.Bounded.{all_below}
use Rattle.prelude.proofs.Tests.{and-true, and_both, eq_or_ne}
use Rattle.prelude.proofs.Bounded.{true_of_all_below, all_below_true}

same-test : (a b : Bool) → (a ≡ true → b ≡ true) → (b ≡ true → a ≡ true) → a ≡ b
same-test true b f g = sym (f refl)
same-test false true f g = g refl
same-test false false f g = refl

module _ (f : ℕ → Bool) where
  all-after : (a n : ℕ) → list_all f (range_with_len a n) ≡ true → (k : ℕ) → a ≤ k → k < a + n → f k ≡ true
  all-after a zero e k l h = absurd (omega arith)
  all-after a (suc n) e k l h =
      let p = and-true (f a) (list_all f (range_with_len (a + 1) n)) e in
      elim (eq_or_ne k a) [ inl q ↦ rw q p.0 | inr q ↦ all-after (a + 1) n p.1 k (omega arith) (omega arith) ]

  all-before : (a n : ℕ) → ((k : ℕ) → a ≤ k → k < a + n → f k ≡ true) → list_all f (range_with_len a n) ≡ true
  all-before a zero h = refl
  all-before a (suc n) h =
      and_both (f a) (list_all f (range_with_len (a + 1) n)) (h a (omega arith) (omega arith))
      (all-before (a + 1) n (λ k l m. h k (omega arith) (omega arith)))

  pub all-range : (n : ℕ) → list_all f (range_with_len 0 n) ≡ all_below n f
  all-range n =
      same-test _ _
      (λ e. all_below_true f n (λ k l. all-after 0 n e k (omega arith) (omega arith)))
      (λ e. all-before 0 n (λ k l m. true_of_all_below f n e k (omega arith)))

-- the items of a list by their index; d stands behind its end
module _ {A : Type 0} (d : A) where
  module _ (f : A → Bool) where
    abbrev test : List A → ℕ → Bool
    test l k = f (get_or l k d)

    all-drop : (l : List A) (i n : ℕ) → i + n ≡ length l
        → list_all f (drop i l) ≡ list_all (test l) (range_with_len i n)
    all-drop l i zero h = rw (drop_of_length-le l {i = i} (omega arith))
    all-drop l i (suc n) h =
        rw (drop-cons l i d (omega arith), all-drop l (suc i) n (omega arith), add-one)

    all_is : (l : List A) → list_all f l ≡ all_below (length l) (test l)
    all_is l = all-drop l 0 (length l) (omega arith) ∙ all-range (test l) (length l)

    pub all_in-front : (n : ℕ) (l : List A) → n ≤ length l
        → list_all f (take n l) ≡ all_below n (λ k. f (get_or l k d))
    all_in-front n l within =
        all_is (take n l) ∙ rw (length-take-le n l within)
        (same-test _ _
        (λ e. all_below_true (test l) n
        (λ k h. rw (← get_or-take n l k d h) (true_of_all_below (test (take n l)) n e k h)))
        (λ e. all_below_true (test (take n l)) n
        (λ k h. rw (get_or-take n l k d h) (true_of_all_below (test l) n e k h))))

  -- what an iterator over a list gives
  abbrev gives : Iter A → Option (Bor A) → Iter A → Type 0
  gives s r t = MatchOption r ((length s.rest.now ≡ 0) × (t ≡ s)) (λ x. s.rest.now ≡ x.now ∷ t.rest.now)

  -- what holds of each item of a list's front holds of each that an iterator over it gives
  module _ (P : A → Type 0) where
    item_has : (s : Iter A) (xs : List (Bor A)) (t u : Iter A) (x : Bor A)
        → Yields gives s xs t
        → t.rest.now ≡ x.now ∷ u.rest.now
        → ((k : ℕ) → k < length s.rest.now → P (get_or s.rest.now k d)) → P x.now
    item_has s [] t u x y e h =
        let all = rw (ap (λ (i : Iter A). i.rest.now) y ∙ e) at h in
        all 0 (omega arith)
    item_has s (z ∷ zs) t u x y e h =
        let all = rw y.1 at h in
        item_has y.0 zs t u x y.2 e (λ k l. all (suc k) (omega arith))

    pub item_in-front : (n : ℕ) (l : List A) → n ≤ length l → ((k : ℕ) → k < n → P (get_or l k d)) → (s : Iter A)
        → s.rest.now ≡ take n l → (xs : List (Bor A)) (t u : Iter A) (x : Bor A)
        → Yields gives s xs t
        → t.rest.now ≡ x.now ∷ u.rest.now → P x.now
    item_in-front n l within h s is xs t u x y e =
        item_has s xs t u x y e (rw is λ k below.
        let inside : k < n = omega (arith, length-take-le n l within) in
        rw (get_or-take n l k d inside) (h k inside))
