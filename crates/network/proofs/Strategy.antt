-- The reaction time, and what is known when. Proofs elsewhere use these laws, and not the text of `reaction_of_lem` and
-- `known`. Assumes nothing.
use mathlib.Core.Path.{◌≡◌, refl, ap}
use mathlib.Core.Bool.{true, false}
use mathlib.Core.List.{List}
use Prim.Native.Nat.{ℕ, zero, suc, ◌+◌, ◌*◌, ◌≤◌, ◌<◌}
use native.Mathlib.Omega.{arith}
use borrow.Author.Tests.{leb-true, leb-false, le-leb}
use lib.Dec.{leb}
use lib.ListN.{length}
use lib.Seq.{get_or-set_same, get_or-set_other}
use Rattle.prelude.proofs.Tests.{and-true, and_both, false_of_not-true}
use Rattle.prelude.proofs.Cells.{cell_lt}
use Rattle.network.specs.Limits as L
use Rattle.network.specs.Build.{empty, with_reaction, observation, reaction_stated, scenarios, cells}
use Rattle.network.specs.Happens.{given}
use Rattle.network.specs.Strategy.{time, reaction_of_lem, reaction, known_from, known}
use Rattle.network.specs.declared.Network.{Network}

-- every event of a scenario has its cell in a table of the network's size
pub cell_in : (Γ : Network) (σ : List ℕ) → length σ ≡ cells Γ → (s u : ℕ) → s < scenarios Γ → u < Γ.events
    → s * Γ.events + u < length σ
cell_in Γ σ e s u h l = rw e (cell_lt Γ.events (scenarios Γ) s u h l)

-- a line's number, where it is one of those that a line may give; and 1 without a line
pub reaction_of_stated : (x : ℕ) → L.fastest ≤ x → reaction_of_lem x ≡ x
unfolding reaction_of_lem
reaction_of_stated x h = omega arith

pub reaction_of-least : (x : ℕ) → x ≤ L.fastest → reaction_of_lem x ≡ L.fastest
unfolding reaction_of_lem
reaction_of-least x h = omega arith

pub reaction_of-most : (x : ℕ) → x ≤ L.slowest → reaction_of_lem x ≤ L.slowest
unfolding reaction_of_lem
reaction_of-most x h = omega arith

-- before any line, nothing is given, and every signal has the reaction 1
pub stated_empty : (h p : ℕ) → reaction_stated (empty h) p ≡ 0
stated_empty h zero = refl
stated_empty h (suc zero) = refl
stated_empty h (suc (suc zero)) = refl
stated_empty h (suc (suc (suc zero))) = refl
stated_empty h (suc (suc (suc (suc p)))) = refl

pub reaction-empty : (h p : ℕ) → reaction (empty h) p ≡ L.fastest
reaction-empty h p = reaction_of-least (reaction_stated (empty h) p) (omega (arith, stated_empty h p))

-- a line says how its signal reacts, and nothing of the others
module _ (Γ : Network) (p minutes : ℕ) where
  pub reaction-with : p < length Γ.reactions → reaction (with_reaction Γ p minutes) p ≡ reaction_of_lem minutes
  reaction-with l = ap reaction_of_lem (get_or-set_same Γ.reactions p minutes 0 l)

  pub reaction-other : (q : ℕ) → (q ≡ p → ⊥) → reaction (with_reaction Γ p minutes) q ≡ reaction Γ q
  reaction-other q n = ap reaction_of_lem (get_or-set_other Γ.reactions p q minutes 0 n)

-- nothing is known in the minute in which it is observed
pub reaction-some : (Γ : Network) (p : ℕ) → 1 ≤ reaction Γ p
unfolding reaction_of_lem
reaction-some Γ p = omega arith

module _ (Γ : Network) (σ : List ℕ) (s p m : ℕ) where
  pub observed-before : time Γ.events σ s (observation Γ p) < known_from Γ σ s p
  observed-before = omega (arith, reaction-some Γ p)

  pub given-known : known Γ σ s p m ≡ true → given Γ s p ≡ true
  given-known e = (and-true (given Γ s p) (leb (known_from Γ σ s p) m) e).0

  pub from-known : known Γ σ s p m ≡ true → known_from Γ σ s p ≤ m
  from-known e = leb-true _ _ (and-true (given Γ s p) (leb (known_from Γ σ s p) m) e).1

  pub is_known : given Γ s p ≡ true → known_from Γ σ s p ≤ m → known Γ σ s p m ≡ true
  is_known g h = and_both (given Γ s p) (leb (known_from Γ σ s p) m) g (le-leb _ _ h)

  pub from-unknown : given Γ s p ≡ true → known Γ σ s p m ≡ false → m < known_from Γ σ s p
  from-unknown g e = leb-false (known_from Γ σ s p) m (rw g at e)

-- once known, known for good; so what is unknown was unknown before
pub unknown-before : (Γ : Network) (σ : List ℕ) (s p i m : ℕ) → i ≤ m → known Γ σ s p m ≡ false
    → known Γ σ s p i ≡ false
unknown-before Γ σ s p i m h e = false_of_not-true (known Γ σ s p i) (λ k.
    omega (arith, from-known Γ σ s p i k, from-unknown Γ σ s p m (given-known Γ σ s p i k) e))

-- what is observed at one time is known from one time on
pub known_from-same : (Γ : Network) (σ : List ℕ) (s r p : ℕ)
    → time Γ.events σ s (observation Γ p) ≡ time Γ.events σ r (observation Γ p) → known_from Γ σ s p
    ≡ known_from Γ σ r p
known_from-same Γ σ s r p e = omega arith
