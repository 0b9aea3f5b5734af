-- Laws of what is taken over all the numbers below n. Assumes nothing.
use mathlib.Core.Path.{◌≡◌, refl, ap}
use mathlib.Core.Logic.{inl, inr}
use mathlib.Core.Bool.{Bool, true, false}
use mathlib.Core.List.{List, [], ◌∷◌, ◌++◌}
use Prim.Native.Nat.{ℕ, zero, suc, ◌+◌, ◌≤◌, ◌<◌, zero-le}
use native.Mathlib.Numerals.{add-one}
use native.Mathlib.Omega.{arith}
use lib.ListN.{length, get_or}
use Rattle.prelude.specs.Bounded.{all_below, max_below, sum_below, tabulate_from, tabulate}
use Rattle.prelude.proofs.Tests.{zero-is-one, clash, false_of_not-true, and-true, and_both, and-false, eq_or_ne}

module _ (f : ℕ → Bool) where
  pub true_of_all_below : (n : ℕ) → all_below n f ≡ true → (k : ℕ) → k < n → f k ≡ true
  true_of_all_below zero e k h = absurd (omega arith)
  true_of_all_below (suc n) e k h =
      let p = and-true (all_below n f) (f n) e in
      elim (eq_or_ne k n) [ inl q ↦ rw q p.1 | inr q ↦ true_of_all_below n p.0 k (omega arith) ]

  pub all_below_true : (n : ℕ) → ((k : ℕ) → k < n → f k ≡ true) → all_below n f ≡ true
  all_below_true zero h = refl
  all_below_true (suc n) h =
      and_both (all_below n f) (f n) (all_below_true n (λ k l. h k (omega arith))) (h n (omega arith))

  -- where it fails, it fails somewhere
  pub all_below_false : (n : ℕ) → all_below n f ≡ false → (k : ℕ) × (k < n) × (f k ≡ false)
  all_below_false zero e = zero-is-one cc
  all_below_false (suc n) e =
      elim (and-false (all_below n f) (f n) e) [
        | inl p ↦ let w = all_below_false n p in (w.0, omega (arith, w.1), w.2)
        | inr p ↦ (n, omega arith, p)
      ]

module _ (f : ℕ → ℕ) where
  pub le_max_below : (n k : ℕ) → k < n → f k ≤ max_below n f
  le_max_below zero k h = absurd (omega arith)
  le_max_below (suc n) k h = elim (eq_or_ne k n)
      [ inl q ↦ rw q (omega arith) | inr q ↦ omega (arith, le_max_below n k (omega arith)) ]

  pub max_below_le : (n m : ℕ) → ((k : ℕ) → k < n → f k ≤ m) → max_below n f ≤ m
  max_below_le zero m h = omega arith
  max_below_le (suc n) m h = omega (arith, h n (omega arith), max_below_le n m (λ k l. h k (omega arith)))

-- a loop over n numbers that tries each has come to i, and each below i passed
pub record Passing (f : ℕ → Bool) (n i : ℕ) : Type 0 where
  pub within : i ≤ n
  pub passed : all_below i f ≡ true

pub passing_start : (f : ℕ → Bool) (n : ℕ) → Passing f n 0
passing_start f n = record { within = zero-le; passed = refl }

module _ {f : ℕ → Bool} {n i : ℕ} (here : Passing f n i) where
  pub passing_on : i < n → f i ≡ true → Passing f n (i + 1)
  passing_on h e = record { within = omega arith; passed = rw add-one (and_both (all_below i f) (f i) here.passed e) }

  pub failed_at : i < n → f i ≡ false → all_below n f ≡ false
  failed_at h e = false_of_not-true (all_below n f) (λ t. clash (f i) (true_of_all_below f n t i h) e)

  pub passed-all : n ≤ i → all_below n f ≡ true
  passed-all h = let end : i ≡ n = omega (arith, here.within) in rw end at here.passed

pub all_below_same : (f g : ℕ → Bool) (n : ℕ) → ((k : ℕ) → k < n → f k ≡ g k) → all_below n f ≡ all_below n g
all_below_same f g zero h = refl
all_below_same f g (suc n) h = rw (all_below_same f g n (λ k l. h k (omega arith)), h n (omega arith))

module _ (f g : ℕ → ℕ) where
  -- where no value is more than c above its fellow, the greatest is not
  pub max_below-near : (c n : ℕ) → ((k : ℕ) → k < n → f k ≤ g k + c) → max_below n f ≤ max_below n g + c
  max_below-near c zero h = omega arith
  max_below-near c (suc n) h = omega (arith, h n (omega arith), max_below-near c n (λ k l. h k (omega arith)))

  pub sum_below_mono : (n : ℕ) → ((k : ℕ) → k < n → f k ≤ g k) → sum_below n f ≤ sum_below n g
  sum_below_mono zero h = omega arith
  sum_below_mono (suc n) h = omega (arith, h n (omega arith), sum_below_mono n (λ k l. h k (omega arith)))

  pub sum_below-same : (n : ℕ) → ((k : ℕ) → k < n → f k ≡ g k) → sum_below n f ≡ sum_below n g
  sum_below-same zero e = refl
  sum_below-same (suc n) e = omega (arith, e n (omega arith), sum_below-same n (λ k l. e k (omega arith)))

  -- less in one place is less in all
  pub sum_below_lt : (n k : ℕ) → ((j : ℕ) → j < n → f j ≤ g j) → k < n → f k < g k → sum_below n f < sum_below n g
  sum_below_lt zero k h l m = absurd (omega arith)
  sum_below_lt (suc n) k h l m =
      let rest : (j : ℕ) → j < n → f j ≤ g j = λ j i. h j (omega arith) in
      elim (eq_or_ne k n) [
        | inl q ↦ let last : f n < g n = rw q at m in omega (arith, sum_below_mono n rest)
        | inr q ↦ omega (arith, h n (omega arith), sum_below_lt n k rest (omega arith) m)
      ]

module _ {A : Type 0} (f : ℕ → A) where
  length-tabulate_from : (i n : ℕ) → length (tabulate_from i n f) ≡ n
  length-tabulate_from i zero = refl
  length-tabulate_from i (suc n) = ap suc (length-tabulate_from (suc i) n)

  get_d_tabulate_from : (i n k j : ℕ) (d : A) → k < n → j ≡ i + k → get_or (tabulate_from i n f) k d ≡ f j
  get_d_tabulate_from i zero k j d h e = absurd (omega arith)
  get_d_tabulate_from i (suc n) zero j d h e = ap f (omega arith)
  get_d_tabulate_from i (suc n) (suc k) j d h e = get_d_tabulate_from (suc i) n k j d (omega arith) (omega arith)

  pub length-tabulate : (n : ℕ) → length (tabulate n f) ≡ n
  length-tabulate n = length-tabulate_from 0 n

  pub get_d_tabulate : (n k : ℕ) (d : A) → k < n → get_or (tabulate n f) k d ≡ f k
  get_d_tabulate n k d h = get_d_tabulate_from 0 n k k d h (omega arith)

  -- one more value stands at the end
  tabulate_from-more : (i n j : ℕ) → j ≡ i + n → tabulate_from i (suc n) f ≡ tabulate_from i n f ++ f j ∷ []
  tabulate_from-more i zero j e = ap (λ (k : ℕ). f k ∷ []) (omega arith)
  tabulate_from-more i (suc n) j e = ap (λ (l : List A). f i ∷ l) (tabulate_from-more (suc i) n j (omega arith))

  pub tabulate-more : (n : ℕ) → tabulate (suc n) f ≡ tabulate n f ++ f n ∷ []
  tabulate-more n = tabulate_from-more 0 n n (omega arith)
