-- A search within a search: it finds the first pair of indices that answers, and what it does not find is nowhere.
-- Where it searches for a test that fails, and the test decides a property, what it finds breaks the property, which
-- holds at each pair before. Assumes nothing.
use mathlib.Core.Path.{◌≡◌}
use mathlib.Core.Logic.{inl, inr, ◌↔◌}
use mathlib.Core.Bool.{Bool, true}
use mathlib.Core.Option.{Option, none, some}
use Prim.Native.Nat.{ℕ, ◌<◌}
use Rattle.prelude.specs.Search.{first_below, unless}
use Rattle.prelude.proofs.Search.{none_of_first_below, first_below-none, some_of_first_below, true_of_unless}
use Rattle.prelude.proofs.Search.{unless-true, unless-some}
use Rattle.prelude.proofs.Tests.{clash}
use Rattle.checker.specs.First.{Before}

module _ {A : Type 0} (n m : ℕ) (f : ℕ → ℕ → Option A) where
  -- f's answer at the first pair of indices below n and m
  abbrev nested : Option A
  nested = first_below n (λ i. first_below m (f i))

  none_of_nested : nested ≡ none → (i k : ℕ) → i < n → k < m → f i k ≡ none
  none_of_nested e i k l h = none_of_first_below (f i) m (none_of_first_below (λ j. first_below m (f j)) n e i l) k h

  nested_none : ((i k : ℕ) → i < n → k < m → f i k ≡ none) → nested ≡ none
  nested_none h = first_below-none (λ j. first_below m (f j)) n λ i l. first_below-none (f i) m λ k. h i k l

  -- the answer stands at a pair, and no pair before it answers
  record FoundPair (a : A) : Type 0 where
    outer : ℕ
    inner : ℕ
    outer_lt : outer < n
    inner_lt : inner < m
    answer : f outer inner ≡ some a
    first : (i k : ℕ) → i < n → k < m → Before i k outer inner → f i k ≡ none

  some_of_nested : (a : A) → nested ≡ some a → FoundPair a
  some_of_nested a e =
      let w = some_of_first_below (λ j. first_below m (f j)) n a e in
      let v = some_of_first_below (f w.index) m a w.answer in
      record {
        outer = w.index;
        inner = v.index;
        outer_lt = w.index_lt;
        inner_lt = v.index_lt;
        answer = v.answer;
        first = λ i k l h before.
            elim before [
              | inl p ↦ none_of_first_below (f i) m (w.first i p) k h
              | inr p ↦ rw p.0 (v.first k p.1)
            ];
      }

module _ {A : Type 0} (n m : ℕ) (name : ℕ → ℕ → A) (P : ℕ → ℕ → Type 0) where
  -- a names a pair that breaks P, and no pair before it does
  pub record FirstBreaking (a : A) : Type 0 where
    pub outer : ℕ
    pub inner : ℕ
    pub outer_lt : outer < n
    pub inner_lt : inner < m
    pub named : name outer inner ≡ a
    pub breaks : P outer inner → ⊥
    pub before : (i k : ℕ) → i < n → k < m → Before i k outer inner → P i k

  -- what was found says whether P holds of every pair, and names the first that breaks it
  pub record Decided (found : Option A) : Type 0 where
    pub nowhere : (found ≡ none) ↔ ((i k : ℕ) → i < n → k < m → P i k)
    pub first : (a : A) → found ≡ some a → FirstBreaking a

  module _ (test : ℕ → ℕ → Bool) (decides : (i k : ℕ) → (test i k ≡ true) ↔ P i k) where
    abbrev failing : ℕ → ℕ → Option A
    failing i k = unless (test i k) (name i k)

    holds : (i k : ℕ) → failing i k ≡ none → P i k
    holds i k e = (decides i k).0 (true_of_unless (test i k) (name i k) e)

    passes : (i k : ℕ) → P i k → failing i k ≡ none
    passes i k p = unless-true (test i k) (name i k) ((decides i k).1 p)

    first_failing : (a : A) → nested n m failing ≡ some a → FirstBreaking a
    first_failing a e =
        let w = some_of_nested n m failing a e in
        let i = w.outer in
        let k = w.inner in
        let failed = unless-some (test i k) (name i k) a w.answer in
        record {
          outer = i;
          inner = k;
          outer_lt = w.outer_lt;
          inner_lt = w.inner_lt;
          named = failed.1;
          breaks = λ p. clash (test i k) ((decides i k).1 p) failed.0;
          before = λ j l a b c. holds j l (w.first j l a b c);
        }

    pub decided : Decided (nested n m failing)
    decided =
        record {
          nowhere = (
            λ e i k l h. holds i k (none_of_nested n m failing e i k l h),
            λ h. nested_none n m failing λ i k l r. passes i k (h i k l r),
          );
          first = first_failing;
        }
