-- Laws of the search for the first index that passes a test. Assumes nothing.
use mathlib.Core.Path.{◌≡◌}
use mathlib.Core.Bool.{Bool, true, false}
use mathlib.Core.Option.{none, some, get_or}
use Prim.Native.Nat.{ℕ, ◌+◌, ◌≤◌, ◌<◌}
use Rattle.prelude.specs.Search.{first_below, when, answers}
use Rattle.prelude.proofs.Search.{Searching, searching_on, found_at, found_nothing}
use Rattle.prelude.proofs.Search.{some_of_first_below, none_of_first_below, when-some, when-none, answered, unanswered}

module _ (t : ℕ → Bool) where
  pub record Finds (n u : ℕ) : Type 0 where
    pub index_lt : u < n
    pub holds : t u ≡ true

  -- what is found is below the bound and passes
  pub finds : (n u : ℕ) → first_below n (λ v. when (t v) v) ≡ some u → Finds n u
  finds n u e =
      let w = some_of_first_below (λ v. when (t v) v) n u e in
      let h = when-some (t w.index) w.index u w.answer in
      let i = h.1 in
      record { index_lt = rw i at w.index_lt; holds = rw i at h.0 }

  -- the same of the index that an answer gives
  pub finds_answer : (n d : ℕ) → answers (first_below n (λ v. when (t v) v)) ≡ true
      → Finds n (get_or (first_below n (λ v. when (t v) v)) d)
  finds_answer n d e = let w = answered (first_below n (λ v. when (t v) v)) e in rw w.1 (finds n w.0 w.1)

  pub finds_nothing : (n : ℕ) → answers (first_below n (λ v. when (t v) v)) ≡ false → (v : ℕ) → v < n → t v ≡ false
  finds_nothing n e v h =
      when-none (t v) v (none_of_first_below (λ v. when (t v) v) n (unanswered (first_below n (λ v. when (t v) v)) e) v
      h)

-- the turns of such a search: a loop over i has come to i
module _ (t : ℕ → Bool) {n i : ℕ} (here : Searching (λ v. when (t v) v) n i) where
  pub finds_on : i < n → t i ≡ false → Searching (λ v. when (t v) v) n (i + 1)
  finds_on h e = searching_on here h (rw e)

  pub finds_at : i < n → t i ≡ true → first_below n (λ v. when (t v) v) ≡ some i
  finds_at h e = found_at here i h (rw e)

  pub finds_end : n ≤ i → first_below n (λ v. when (t v) v) ≡ none
  finds_end h = found_nothing here h
