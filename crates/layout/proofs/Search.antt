-- Laws of a search for the first place at which a test holds. Assumes nothing.
use mathlib.Core.Path.{◌≡◌, sym, ◌∙◌, ap}
use mathlib.Core.Logic.{inl, inr}
use mathlib.Core.Bool.{Bool, true}
use mathlib.Core.Option.{some}
use Prim.Native.Nat.{ℕ, ◌<◌}
use Rattle.prelude.specs.Search.{first_below, when}
use Rattle.prelude.proofs.Search.{none_of_first_below, some_of_first_below, when-some, some-not-none, some_or_none}

-- it finds a place where the test holds, and finds one if there is any
module _ (t : ℕ → Bool) (n : ℕ) where
  pub found : (u : ℕ) → first_below n (λ k. when (t k) k) ≡ some u → (u < n) × (t u ≡ true)
  found u e =
      let w = some_of_first_below (λ k. when (t k) k) n u e in
      let p = when-some (t w.index) w.index u w.answer in
      (rw p.1 at w.index_lt, rw p.1 at p.0)

  pub finds : (k : ℕ) → k < n → t k ≡ true → (u : ℕ) × (first_below n (λ i. when (t i) i) ≡ some u)
  finds k h e =
      elim (some_or_none (first_below n (λ i. when (t i) i))) [
        | inl p ↦ p
        | inr p ↦ some-not-none k (sym (ap (λ (b : Bool). when b k) e) ∙ none_of_first_below (λ i. when (t i) i) n p k
            h)
      ]
