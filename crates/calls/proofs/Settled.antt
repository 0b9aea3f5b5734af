-- What it means that a call's own refusals decide its answer to an accepted sheet, and that each number then comes
-- exactly where its cause holds. Assumes nothing.
use mathlib.Core.Path.{◌≡◌, refl}
use mathlib.Core.Logic.{◌⊎◌, inl, inr, ◌↔◌}
use mathlib.Core.Bool.{Bool, true, false, ◌&&◌, ◌||◌, not}
use mathlib.Core.List.{List, [], ◌∷◌}
use Prim.Native.Nat.{ℕ, suc, ◌≤◌, ◌<◌}
use native.Mathlib.Omega.{arith}
use borrow.Author.Tests.{ltb-true, eq-eqb, not-true}
use lib.Dec.{eqb, ltb}
use Rattle.prelude.proofs.Tests.{clash, and-true, eq_or_ne}
use Rattle.network.specs.declared.Network.{Network}
use Rattle.sheet.specs.Reading.{longest}
use Rattle.calls.specs.Values.{Values}
use Rattle.calls.specs.Answers.{names_line, Own, Exactly, OneOf}

abbrev pub number_of : {A : Type 0} → Values A → ℕ
number_of v = v.number

-- a call's own refusals have numbers above 10, each once
abbrev has_number : ℕ → List Own → Bool
has_number n [] = false
has_number n (o ∷ os) = eqb n o.number || has_number n os

abbrev pub are_own : List Own → Bool
are_own [] = true
are_own (o ∷ os) = ltb 10 o.number && (not (has_number o.number os) && are_own os)

record OwnFirst (o : Own) (os : List Own) : Type 0 where
  above : 10 < o.number
  once : has_number o.number os ≡ false
  others : are_own os ≡ true

own_first : (o : Own) (os : List Own) → are_own (o ∷ os) ≡ true → OwnFirst o os
own_first o os e =
    let p = and-true (ltb 10 o.number) (not (has_number o.number os) && are_own os) e in
    let q = and-true (not (has_number o.number os)) (are_own os) p.1 in
    record { above = ltb-true 10 o.number p.0; once = not-true (has_number o.number os) q.0; others = q.1 }

pub one_above : (own : List Own) (n : ℕ) → are_own own ≡ true → OneOf own n → 10 < n
one_above [] n a m = absurd m
one_above (o ∷ os) n a (inl e) = omega (arith, (own_first o os a).above)
one_above (o ∷ os) n a (inr m) = one_above os n (own_first o os a).others m

one_has : (own : List Own) (n : ℕ) → OneOf own n → has_number n own ≡ true
one_has [] n m = absurd m
one_has (o ∷ os) n (inl e) = rw (eq-eqb n o.number e)
one_has (o ∷ os) n (inr m) = or_right (eqb n o.number) (has_number n os) (one_has os n m)
  where
    or_right : (a b : Bool) → b ≡ true → a || b ≡ true
    or_right true b e = refl
    or_right false b e = e

-- where each number comes exactly with its cause, there is no other number
pub exactly_one : (own : List Own) (Γ : Network) (n : ℕ) → Exactly own Γ n → (n ≡ 0) ⊎ OneOf own n
exactly_one [] Γ n x = inl x
exactly_one (o ∷ os) Γ n x =
    elim (eq_or_ne n o.number) [
      | inl e ↦ inr (inl e)
      | inr m ↦ elim (exactly_one os Γ n (x.1 (λ c. m (x.0.1 c)))) [ inl z ↦ inl z | inr k ↦ inr (inr k) ]
    ]

module _ {A : Type 0} (nothing : A) where
  -- refused with this number, with a line where the number has one, and nothing besides
  pub record Turned (n : ℕ) (v : Values A) : Type 0 where
    pub number : v.number ≡ n
    pub line : (1 ≤ v.line) ↔ (names_line n ≡ true)
    pub near : v.line ≤ suc longest
    pub empty : v.value ≡ nothing

  -- the first refusal whose cause holds is answered; where none does, the answer is no refusal
  abbrev pub Settles : List Own → Network → Values A → Type 0
  Settles [] Γ v = (v.number ≡ 0) × (v.line ≡ 0)
  Settles (o ∷ os) Γ v = (o.cause Γ × Turned o.number v) ⊎ ((o.cause Γ → ⊥) × Settles os Γ v)

  pub settled_one : (own : List Own) (Γ : Network) (v : Values A) → Settles own Γ v
      → (v.number ≡ 0) ⊎ OneOf own v.number
  settled_one [] Γ v s = inl s.0
  settled_one (o ∷ os) Γ v (inl s) = inr (inl s.1.number)
  settled_one (o ∷ os) Γ v (inr s) = elim (settled_one os Γ v s.1) [ inl z ↦ inl z | inr m ↦ inr (inr m) ]

  pub settled_line : (own : List Own) (Γ : Network) (v : Values A) → Settles own Γ v
      → (1 ≤ v.line) ↔ (names_line v.number ≡ true)
  settled_line [] Γ v s = rw (s.0, s.1) (λ h. absurd (omega arith), λ e. clash false e refl)
  settled_line (o ∷ os) Γ v (inl s) = rw s.1.number s.1.line
  settled_line (o ∷ os) Γ v (inr s) = settled_line os Γ v s.1

  pub settled_near : (own : List Own) (Γ : Network) (v : Values A) → Settles own Γ v → v.line ≤ suc longest
  settled_near [] Γ v s = omega (arith, s.1)
  settled_near (o ∷ os) Γ v (inl s) = s.1.near
  settled_near (o ∷ os) Γ v (inr s) = settled_near os Γ v s.1

  pub settled_empty : (own : List Own) (Γ : Network) (v : Values A) → Settles own Γ v → (v.number ≡ 0 → ⊥)
      → v.value ≡ nothing
  settled_empty [] Γ v s n = absurd (n s.0)
  settled_empty (o ∷ os) Γ v (inl s) n = s.1.empty
  settled_empty (o ∷ os) Γ v (inr s) n = settled_empty os Γ v s.1 n

  pub settled_exactly : (own : List Own) (Γ : Network) (v : Values A) → are_own own ≡ true → Settles own Γ v
      → Exactly own Γ v.number
  settled_exactly [] Γ v a s = s.0
  settled_exactly (o ∷ os) Γ v a (inl s) = ((λ e. s.0, λ c. s.1.number), λ no. absurd (no s.0))
  settled_exactly (o ∷ os) Γ v a (inr s) =
      let first = own_first o os a in
      let other : v.number ≡ o.number → ⊥ =
      λ e. elim (settled_one os Γ v s.1) [
        | inl z ↦ omega (arith, first.above)
        | inr m ↦ clash (has_number o.number os) (rw e at (one_has os v.number m)) first.once
      ] in
      ((λ e. absurd (other e), λ c. absurd (s.0 c)), λ no. settled_exactly os Γ v first.others s.1)
