-- Two scenarios agree on a proposition the same way round either way; and a scenario's number, halved again and
-- again, has the truths of the propositions one by one as its last binary digit. Assumes nothing.
use mathlib.Core.Path.{◌≡◌, refl, sym}
use mathlib.Core.Bool.{Bool, true, false, beq}
use Prim.Native.Nat.{ℕ, ◌+◌, ◌/◌, ◌^◌}
use native.Mathlib.Nat.{div-div-eq-div-mul, pow-suc, pow-zero, div-one}
use native.Mathlib.Numerals.{add-one}
use Rattle.network.specs.Scenario.{truth, agree}

beq_comm : (a b : Bool) → beq a b ≡ beq b a
beq_comm true true = refl
beq_comm true false = refl
beq_comm false true = refl
beq_comm false false = refl

pub agree_comm : (s r p : ℕ) → agree s r p ≡ agree r s p
agree_comm s r p = beq_comm (truth s p) (truth r p)

-- s halved p times has the truth of p as its last binary digit
module _ (s : ℕ) where
  pub halved_none : s ≡ s / 2 ^ 0
  halved_none = sym (rw pow-zero (div-one s))

  pub halved_more : (p : ℕ) → s / 2 ^ p / 2 ≡ s / 2 ^ (p + 1)
  halved_more p = rw (add-one, pow-suc) (div-div-eq-div-mul s (2 ^ p) 2)
