-- What `find` over the numbers below n answers, as the definitions say it. Assumes nothing.
use mathlib.Core.Path.{◌≡◌, refl, sym, ◌∙◌, ap}
use mathlib.Core.Bool.{Bool, true, false, not}
use mathlib.Core.Option.{Option}
use Prim.Native.Nat.{ℕ, zero, suc, ◌<◌}
use native.Mathlib.Numerals.{add-one}
use native.Mathlib.Omega.{arith}
use Rattle.std.specs.Prelude.{cond, Some, None, Option as Answer}
use Rattle.std.specs.Option.{option_map}
use Rattle.std.specs.List.{range_with_len, find}
use Rattle.std.proofs.lemmas.Iterator.Adapters.{option_map_id}
use Rattle.prelude.specs.Search.{or_else, first_from, first_below, when, unless}
use Rattle.prelude.specs.Options.{option_of}
use Rattle.prelude.proofs.Options.{option_of-some}
use Rattle.prelude.proofs.Search.{some_of_first_below, when-some}

-- the test of the first number, and the search in those behind it
module _ {A : Type 0} (a : A) where
  found-here : (b : Bool) {rest : Answer A} (others : Option A) → rest ≡ option_of others
      → cond b (Some a) rest ≡ option_of (or_else (when b a) others)
  found-here true others e = refl
  found-here false others e = e

find-after : (f : ℕ → Bool) (a n : ℕ) → find f (range_with_len a n) ≡ option_of (first_from a n (λ k. when (f k) k))
find-after f a zero = refl
find-after f a (suc n) = found-here a (f a) _ (rw add-one (find-after f (suc a) n))

pub find-range : (f : ℕ → Bool) (n : ℕ) → find f (range_with_len 0 n) ≡ option_of (first_below n (λ k. when (f k) k))
find-range f n = find-after f 0 n

-- the same of what the code's `find` answers
pub find-answers : (f : ℕ → Bool) (n : ℕ) (r : Answer ℕ) → option_map (λ x. x) r ≡ find f (range_with_len 0 n)
    → r ≡ option_of (first_below n (λ k. when (f k) k))
find-answers f n r e = sym (option_map_id r) ∙ e ∙ find-range f n

-- where a test fails first, and what is made of that place
module _ {A : Type 0} (t : ℕ → Bool) (name : ℕ → A) where
  failing-here : (b : Bool) (a : ℕ) (others : Option A) (rest : Answer ℕ) → option_map name rest ≡ option_of others
      → option_map name (cond (not b) (Some a) rest) ≡ option_of (or_else (unless b (name a)) others)
  failing-here true a others rest e = e
  failing-here false a others rest e = refl

  failing-after : (a n : ℕ) → option_map name (find (λ k. not (t k)) (range_with_len a n))
      ≡ option_of (first_from a n (λ k. unless (t k) (name k)))
  failing-after a zero = refl
  failing-after a (suc n) = failing-here (t a) a _ _ (rw add-one (failing-after (suc a) n))

  -- the code's `find` answered nothing, and the search does so; or a place, from which the search's answer is made
  pub record Failing (n : ℕ) (r : Answer ℕ) : Type 0 where
    pub nothing : r ≡ None → None ≡ option_of (first_below n (λ k. unless (t k) (name k)))
    pub place_lt : (k : ℕ) → r ≡ Some k → k < n
    pub made : (k : ℕ) → r ≡ Some k → Some (name k) ≡ option_of (first_below n (λ k. unless (t k) (name k)))

  pub failing : (n : ℕ) (r : Answer ℕ) → option_map (λ x. x) r ≡ find (λ k. not (t k)) (range_with_len 0 n)
      → Failing n r
  failing n r e =
      let found = sym (option_map_id r) ∙ e in
      let named = ap (option_map name) found ∙ failing-after 0 n in
      record {
        nothing = λ none. rw none at named;
        place_lt = λ k some.
            let search = first_below n (λ i. when (not (t i)) i) in
            let w = some_of_first_below (λ i. when (not (t i)) i) n k
            (option_of-some search k (sym (find-range (λ i. not (t i)) n) ∙ sym found ∙ some)) in
            omega (arith, w.index_lt, (when-some (not (t w.index)) w.index k w.answer).1);
        made = λ k some. rw some at named;
      }
