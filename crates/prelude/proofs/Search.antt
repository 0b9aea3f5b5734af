-- Laws of bounded search. A loop over i has the invariant `Searching f n i`: nothing below i answers. It begins by
-- `searching_start`, goes on by `searching_on`, and is left by `found_at` with an answer or by `found_nothing` at the
-- end. What a search found is the first answer (`some_of_first_below`), and what it did not find is nowhere
-- (`none_of_first_below`); where it looks for a test that fails, all pass (`all_pass`). Assumes nothing.
use mathlib.Core.Path.{◌≡◌, refl, sym, ◌∙◌}
use mathlib.Core.Logic.{inl, inr}
use mathlib.Core.Bool.{Bool, true}
use mathlib.Core.Option.{Option, none, some}
use Prim.Native.Nat.{ℕ, zero, suc, ◌+◌, ◌-◌, ◌≤◌, ◌<◌, zero-le}
use native.Mathlib.Nat.{sub-zero}
use native.Mathlib.Numerals.{add-one}
use native.Mathlib.Omega.{arith}
use Rattle.prelude.specs.Search.{first_from, first_below, unless}
use Rattle.prelude.proofs.Tests.{eq_or_ne}
pub use Rattle.prelude.proofs.Answering.{some_or_none, some-not-none, none-not-some, or_else_none, or_else_some}
pub use Rattle.prelude.proofs.Answering.{true_of_unless, unless-true, unless-some, when-some, when-none}
pub use Rattle.prelude.proofs.Answering.{answered, unanswered}

-- the search for f's first answer below n has come to i
pub record Searching {A : Type 0} (f : ℕ → Option A) (n i : ℕ) : Type 0 where
  pub within : i ≤ n
  pub rest : first_from i (n - i) f ≡ first_below n f

module _ {A : Type 0} (f : ℕ → Option A) where
  turn_hit : (i n m : ℕ) (a : A) → n - i ≡ suc m → f i ≡ some a → first_from i (n - i) f ≡ some a
  turn_hit i n m a l e = rw (l, e)

  turn_miss : (i n : ℕ) → n - i ≡ suc (n - (i + 1)) → f i ≡ none → first_from i (n - i) f
      ≡ first_from (i + 1) (n - (i + 1)) f
  turn_miss i n l e = rw (l, e, add-one)

  turn_none : (i n : ℕ) → n ≤ i → first_from i (n - i) f ≡ none
  turn_none i n h = let z : n - i ≡ 0 = omega arith in rw z

  pub searching_start : (n : ℕ) → Searching f n 0
  searching_start n = record { within = zero-le; rest = rw sub-zero }

  -- nothing answers from i on, or the first answer and where it stands
  none_of_first_from : (i n : ℕ) → first_from i n f ≡ none → (k : ℕ) → i ≤ k → k < i + n → f k ≡ none
  none_of_first_from i zero e k a b = absurd (omega arith)
  none_of_first_from i (suc n) e k a b =
      let p = or_else_none (f i) (first_from (suc i) n f) e in
      elim (eq_or_ne i k) [
        | inl q ↦ rw (← q) p.0
        | inr q ↦ none_of_first_from (suc i) n p.1 k (omega arith) (omega arith)
      ]

  first_from-none : (i n : ℕ) → ((k : ℕ) → i ≤ k → k < i + n → f k ≡ none) → first_from i n f ≡ none
  first_from-none i zero h = refl
  first_from-none i (suc n) h =
      rw (h i (omega arith) (omega arith)) (first_from-none (suc i) n (λ k a b. h k (omega arith) (omega arith)))

  some_of_first_from : (i n : ℕ) (a : A) → first_from i n f ≡ some a
      → (k : ℕ) × (i ≤ k) × (k < i + n) × (f k ≡ some a) × ((j : ℕ) → i ≤ j → j < k → f j ≡ none)
  some_of_first_from i zero a e = none-not-some a e
  some_of_first_from i (suc n) a e =
      elim (or_else_some (f i) (first_from (suc i) n f) a e) [
        | inl p ↦ (i, omega arith, omega arith, p, λ j b c. absurd (omega arith))
        | inr p ↦
            let w = some_of_first_from (suc i) n a p.1 in (
              w.0,
              omega (arith, w.1),
              omega (arith, w.2),
              w.3,
              λ j b c.
                  elim (eq_or_ne i j) [ inl q ↦ rw (← q) p.0 | inr q ↦ w.4 j (omega arith) c ],
            )
      ]

  first_from-some : (i n k : ℕ) (a : A) → i ≤ k → k < i + n → ((j : ℕ) → i ≤ j → j < k → f j ≡ none) → f k ≡ some a
      → first_from i n f ≡ some a
  first_from-some i zero k a b c none_below e = absurd (omega arith)
  first_from-some i (suc n) k a b c none_below e =
      elim (eq_or_ne i k) [
        | inl q ↦ rw (q, e)
        | inr q ↦
            rw (none_below i (omega arith) (omega arith))
            (first_from-some (suc i) n k a (omega arith) (omega arith) (λ j l. none_below j (omega arith)) e)
      ]

  pub none_of_first_below : (n : ℕ) → first_below n f ≡ none → (k : ℕ) → k < n → f k ≡ none
  none_of_first_below n e k h = none_of_first_from 0 n e k (omega arith) (omega arith)

  pub first_below-none : (n : ℕ) → ((k : ℕ) → k < n → f k ≡ none) → first_below n f ≡ none
  first_below-none n h = first_from-none 0 n (λ k a b. h k (omega arith))

  -- the answer of a search stands at an index, and nothing below it answers
  pub record FoundAt (n : ℕ) (a : A) : Type 0 where
    pub index : ℕ
    pub index_lt : index < n
    pub answer : f index ≡ some a
    pub first : (j : ℕ) → j < index → f j ≡ none

  pub some_of_first_below : (n : ℕ) (a : A) → first_below n f ≡ some a → FoundAt n a
  some_of_first_below n a e =
      let w = some_of_first_from 0 n a e in
      record { index = w.0; index_lt = omega (arith, w.2); answer = w.3; first = λ j h. w.4 j (omega arith) h }

  pub first_below-some : (n : ℕ) (a : A) → FoundAt n a → first_below n f ≡ some a
  first_below-some n a w =
      first_from-some 0 n w.index a (omega arith) (omega (arith, w.index_lt)) (λ j _ h. w.first j h) w.answer

module _ {A : Type 0} {f : ℕ → Option A} {n i : ℕ} (here : Searching f n i) where
  pub searching_on : i < n → f i ≡ none → Searching f n (i + 1)
  searching_on h e = record { within = omega arith; rest = sym (turn_miss f i n (omega arith) e) ∙ here.rest }

  pub found_at : (a : A) → i < n → f i ≡ some a → first_below n f ≡ some a
  found_at a h e = sym here.rest ∙ turn_hit f i n (n - (i + 1)) a (omega arith) e

  pub found_nothing : n ≤ i → first_below n f ≡ none
  found_nothing h = sym here.rest ∙ turn_none f i n h

-- searches for the same
module _ {A : Type 0} (f g : ℕ → Option A) where
  first_from-same : (i n : ℕ) → ((k : ℕ) → k < i + n → f k ≡ g k) → first_from i n f ≡ first_from i n g
  first_from-same i zero h = refl
  first_from-same i (suc n) h = rw (h i (omega arith), first_from-same (suc i) n (λ k l. h k (omega arith)))

  pub first_below-same : (n : ℕ) → ((k : ℕ) → k < n → f k ≡ g k) → first_below n f ≡ first_below n g
  first_below-same n h = first_from-same 0 n (λ k l. h k (omega arith))

-- the first that fails a test: there is none exactly where each passes
module _ {A : Type 0} (test : ℕ → Bool) (answer : ℕ → A) (n : ℕ) where
  abbrev failing : ℕ → Option A
  failing k = unless (test k) (answer k)

  pub all_pass : first_below n failing ≡ none → (k : ℕ) → k < n → test k ≡ true
  all_pass e k h = true_of_unless (test k) (answer k) (none_of_first_below failing n e k h)

  pub none_of_all-pass : ((k : ℕ) → k < n → test k ≡ true) → first_below n failing ≡ none
  none_of_all-pass p = first_below-none failing n (λ k h. unless-true (test k) (answer k) (p k h))
