-- What a joined test tells, and how one is shown. Assumes nothing.
use mathlib.Core.Path.{◌≡◌, refl, sym, ◌∙◌}
use mathlib.Core.Logic.{◌⊎◌, inl, inr}
use mathlib.Core.Bool.{Bool, true, false, ◌&&◌, ◌||◌, not, beq, cond, true≢false}
use Prim.Native.Nat.{ℕ, ◌≤◌, ◌<◌}
use native.Mathlib.Omega.{arith}
use borrow.Author.Tests.{ltb-true, ltb-false, eqb-true, eqb-false, eq-eqb}
use lib.Dec.{eqb, ltb}

-- two values that are built otherwise are not equal: if they were, then by congruence 0 would be 1
pub zero-is-one {ℓ} : {A : Type ℓ} → ◌≡◌ {A = ℕ} 0 1 → A
zero-is-one e = absurd (omega (arith, e))

pub either : (a : Bool) → (a ≡ true) ⊎ (a ≡ false)
either true = inl refl
either false = inr refl

pub clash {ℓ} : {A : Type ℓ} (a : Bool) → a ≡ true → a ≡ false → A
clash a p q = absurd (true≢false (sym p ∙ q))

-- a test that can't fail holds
pub true_of_not-false : (a : Bool) → (a ≡ false → ⊥) → a ≡ true
true_of_not-false true h = refl
true_of_not-false false h = absurd (h refl)

pub false_of_not-true : (a : Bool) → (a ≡ true → ⊥) → a ≡ false
false_of_not-true true h = absurd (h refl)
false_of_not-true false h = refl

pub and-true : (a b : Bool) → a && b ≡ true → (a ≡ true) × (b ≡ true)
and-true true b e = (refl, e)
and-true false b e = (e, cc)

pub and_both : (a b : Bool) → a ≡ true → b ≡ true → a && b ≡ true
and_both true b p q = q
and_both false b p q = p

pub and-false : (a b : Bool) → a && b ≡ false → (a ≡ false) ⊎ (b ≡ false)
and-false true b e = inr e
and-false false b e = inl e

pub or-false : (a b : Bool) → a || b ≡ false → (a ≡ false) × (b ≡ false)
or-false true b e = (e, cc)
or-false false b e = (refl, e)

pub or_neither : (a b : Bool) → a ≡ false → b ≡ false → a || b ≡ false
or_neither true b p q = p
or_neither false b p q = q

pub or-true : (a b : Bool) → a || b ≡ true → (a ≡ true) ⊎ (b ≡ true)
or-true true b e = inl refl
or-true false b e = inr e

-- `not a || b` is an implication
pub implied : (a b : Bool) → not a || b ≡ true → a ≡ true → b ≡ true
implied true b h e = h
implied false b h e = cc

pub implies : (a b : Bool) → (a ≡ true → b ≡ true) → not a || b ≡ true
implies true b h = h refl
implies false b h = refl

-- two tests that are compared
pub beq-refl : (a : Bool) → beq a a ≡ true
beq-refl true = refl
beq-refl false = refl

pub beq-true : (a b : Bool) → beq a b ≡ true → a ≡ b
beq-true true true e = refl
beq-true true false e = sym e
beq-true false true e = e
beq-true false false e = refl

-- tests that hold together are equal
pub same_tests : (a b : Bool) → (a ≡ true → b ≡ true) → (b ≡ true → a ≡ true) → a ≡ b
same_tests true b f g = sym (f refl)
same_tests false true f g = g refl
same_tests false false f g = refl

-- what holds of both arms of a test
pub by_test {ℓ κ} : {A : Type ℓ} (P : A → Type κ) (b : Bool) (x y : A)
    → (b ≡ true → P x) → (b ≡ false → P y) → P (elim b [ true ↦ x | false ↦ y ])
by_test P true x y f g = f refl
by_test P false x y f g = g refl

pub by_cond {ℓ} : {A : Type 0} (P : A → Type ℓ) (b : Bool) (x y : A)
    → (b ≡ true → P x) → (b ≡ false → P y) → P (cond b x y)
by_cond P true x y f g = f refl
by_cond P false x y f g = g refl

-- two numbers are in order, or are equal, or not
pub lt_or_ge : (a b : ℕ) → (a < b) ⊎ (b ≤ a)
lt_or_ge a b = elim (either (ltb a b)) [ inl p ↦ inl (ltb-true a b p) | inr q ↦ inr (ltb-false a b q) ]

pub eq_or_ne : (a b : ℕ) → (a ≡ b) ⊎ (a ≡ b → ⊥)
eq_or_ne a b = elim (either (eqb a b)) [ inl p ↦ inl (eqb-true a b p) | inr q ↦ inr (eqb-false a b q) ]

-- equalities that hold together are one test
pub eqb_same : (a b c d : ℕ) → (a ≡ b → c ≡ d) → (c ≡ d → a ≡ b) → eqb a b ≡ eqb c d
eqb_same a b c d f g = same_tests (eqb a b) (eqb c d) (λ t. eq-eqb c d (f (eqb-true a b t)))
    (λ t. eq-eqb a b (g (eqb-true c d t)))
