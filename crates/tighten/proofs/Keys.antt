-- A key as a list and as one number: equal together, and in order together, since the number's digits in base
-- 16 are the key's parts. Assumes nothing.
use mathlib.Core.Path.{◌≡◌, ap}
use mathlib.Core.Logic.{◌⊎◌, inl, inr}
use mathlib.Core.List.{List, [], ◌∷◌}
use Prim.Native.Nat.{ℕ, ◌≤◌, ◌<◌}
use native.Mathlib.Omega.{arith}
use lib.ListN.{get_or}
use Rattle.prelude.proofs.Tests.{lt_or_ge}
use Rattle.network.specs.declared.Constraint.{Constraint}
use Rattle.tighten.specs.Remaining.{key_of, Before}
use Rattle.tighten.specs.Tightest.{rank}
use Rattle.tighten.proofs.Regular.{Regular}

-- the parts of equal keys
module _ (r q : Constraint) (e : key_of r ≡ key_of q) where
  part : (i : ℕ) → get_or (key_of r) i 0 ≡ get_or (key_of q) i 0
  part i = ap (λ (l : List ℕ). get_or l i 0) e

  pub key-from : r.from ≡ q.from
  key-from = part 0

  pub key-to : r.to ≡ q.to
  key-to = part 1

  pub key-label : r.label ≡ q.label
  key-label = λ i. record { positive = part 2 i; negative = part 3 i }

  pub rank_of_key : rank r ≡ rank q
  rank_of_key = omega (arith, part 0, part 1, part 2, part 3)

-- the first numbers decide, or what lies behind them
module _ {a b : ℕ} {B : Type 0} where
  first_decides : a ≤ b → (a ≡ b → B) → (a < b) ⊎ ((a ≡ b) × B)
  first_decides h f = elim (lt_or_ge a b) [ inl l ↦ inl l | inr l ↦ let e : a ≡ b = omega arith in inr (e, f e) ]

  by_first : {A : Type 0} → (a < b) ⊎ ((a ≡ b) × B) → (a < b → A) → (a ≡ b → B → A) → A
  by_first w f g = elim w [ inl l ↦ f l | inr p ↦ g p.0 p.1 ]

module _ {r q : Constraint} (h : Regular r) (l : Regular q) where
  module _ (e : rank r ≡ rank q) where
    from_of_rank : r.from ≡ q.from
    from_of_rank = omega (arith, h.encodable, l.encodable)

    to_of_rank : r.to ≡ q.to
    to_of_rank = omega (arith, h.encodable, l.encodable)

    positive_of_rank : r.label.positive ≡ q.label.positive
    positive_of_rank = omega (arith, h.encodable, l.encodable)

    negative_of_rank : r.label.negative ≡ q.label.negative
    negative_of_rank = omega (arith, h.encodable, l.encodable)

    pub key_of_rank : key_of r ≡ key_of q
    key_of_rank = λ i. from_of_rank i ∷ to_of_rank i ∷ positive_of_rank i ∷ negative_of_rank i ∷ []

  pub before_of_rank : rank r < rank q → Before (key_of r) (key_of q)
  before_of_rank k =
      first_decides (omega (arith, h.encodable, l.encodable)) (λ e₀.
      first_decides (omega (arith, h.encodable, l.encodable)) (λ e₁.
      first_decides (omega (arith, h.encodable, l.encodable)) (λ e₂. inl (omega arith))))

  pub rank_of_before : Before (key_of r) (key_of q) → rank r < rank q
  rank_of_before b₀ =
      by_first b₀ (λ k. omega (arith, h.encodable, l.encodable)) (λ e₀ b₁.
      by_first b₁ (λ k. omega (arith, h.encodable, l.encodable)) (λ e₁ b₂.
      by_first b₂ (λ k. omega (arith, h.encodable, l.encodable)) (λ e₂ b₃.
      by_first b₃ (λ k. omega arith) (λ e₃ b₄. absurd b₄))))
