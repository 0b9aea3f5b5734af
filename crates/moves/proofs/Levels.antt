-- The least of the rises above l, if there is one, is the next level; if there is none, no level is above l. Assumes
-- nothing.
use mathlib.Core.Path.{◌≡◌, refl}
use mathlib.Core.Logic.{◌⊎◌, inl, inr}
use mathlib.Core.List.{List, [], ◌∷◌}
use Prim.Native.Nat.{ℕ, zero, suc, ◌≤◌, ◌<◌, min}
use native.Mathlib.Omega.{arith}
use borrow.Author.Tests.{ltb-true, ltb-false}
use lib.Dec.{ltb}
use lib.ListN.{length, get_or}
use Rattle.std.proofs.Common.{Option, Some, None, MatchOption, filter, fold}
use Rattle.std.specs.List.{reduce}
use Rattle.prelude.proofs.Tests.{either, lt_or_ge}
use Rattle.moves.specs.Levels.{Highest, NextLevel}

module _ (l : ℕ) where
  -- the next level of d, if there is one
  abbrev Next : List ℕ → Option ℕ → Type 0
  Next d o = MatchOption o (Highest d l (length d)) (λ r. NextLevel d l (length d) r)

  -- in front stand a rise x, which is not above l, and some others
  module _ (x : ℕ) (low : x ≤ l) where
    low_next : {a r : ℕ} (d : List ℕ) → NextLevel (a ∷ d) l (length (a ∷ d)) r
        → NextLevel (a ∷ x ∷ d) l (length (a ∷ x ∷ d)) r
    low_next {a} {r} d N = record { more = N.more; between = between; found = found N.found }
      where
        between : (i : ℕ) → i < length (a ∷ x ∷ d) → (get_or (a ∷ x ∷ d) i 0 ≤ l) ⊎ (r ≤ get_or (a ∷ x ∷ d) i 0)
        between zero b = N.between 0 (omega arith)
        between (suc zero) b = inl low
        between (suc (suc i)) b = N.between (suc i) (omega arith)

        found : (i : ℕ) × (i < length (a ∷ d)) × (get_or (a ∷ d) i 0 ≡ r)
            → (i : ℕ) × (i < length (a ∷ x ∷ d)) × (get_or (a ∷ x ∷ d) i 0 ≡ r)
        found (zero, b, e) = (0, omega arith, e)
        found (suc i, b, e) = (suc (suc i), omega arith, e)

    low_front : (d : List ℕ) (o : Option ℕ) → Next d o → Next (x ∷ d) o
    low_front d None N = record { none = none }
      where
        none : (i : ℕ) → i < length (x ∷ d) → get_or (x ∷ d) i 0 ≤ l
        none zero b = low
        none (suc i) b = N.none i (omega arith)
    low_front d (Some r) N = record {
      more = N.more;
      between = between;
      found = (suc N.found.0, omega (arith, N.found.1), N.found.2);
    }
      where
        between : (i : ℕ) → i < length (x ∷ d) → (get_or (x ∷ d) i 0 ≤ l) ⊎ (r ≤ get_or (x ∷ d) i 0)
        between zero b = inl low
        between (suc i) b = N.between i (omega arith)

  -- two that are above l stand in front for the lesser one
  both_next : {a x r : ℕ} (d : List ℕ) → l < a → l < x → NextLevel (min a x ∷ d) l (length (min a x ∷ d)) r
      → NextLevel (a ∷ x ∷ d) l (length (a ∷ x ∷ d)) r
  both_next {a} {x} {r} d ha hx N = record { more = N.more; between = between; found = found N.found }
    where
      least : r ≤ min a x
      least = elim (N.between 0 (omega arith)) [ inl e ↦ absurd (omega arith) | inr e ↦ e ]

      between : (i : ℕ) → i < length (a ∷ x ∷ d) → (get_or (a ∷ x ∷ d) i 0 ≤ l) ⊎ (r ≤ get_or (a ∷ x ∷ d) i 0)
      between zero b = inr (omega (arith, least))
      between (suc zero) b = inr (omega (arith, least))
      between (suc (suc i)) b = N.between (suc i) (omega arith)

      found : (i : ℕ) × (i < length (min a x ∷ d)) × (get_or (min a x ∷ d) i 0 ≡ r)
          → (i : ℕ) × (i < length (a ∷ x ∷ d)) × (get_or (a ∷ x ∷ d) i 0 ≡ r)
      found (zero, b, e) = elim (lt_or_ge x a) [
        | inl h ↦ (1, omega arith, omega arith)
        | inr h ↦ (0, omega arith, omega arith)
      ]
      found (suc i, b, e) = (suc (suc i), omega arith, e)

  next_from : (a : ℕ) (d : List ℕ) → l < a
      → NextLevel (a ∷ d) l (length (a ∷ d)) (fold min a (filter (λ r. ltb l r) d))
  next_from a [] h = record { more = h; between = λ i b. inr (only i b); found = (0, omega arith, refl) }
    where
      only : (i : ℕ) → i < 1 → a ≤ get_or (a ∷ []) i 0
      only zero b = omega arith
      only (suc i) b = absurd (omega arith)
  next_from a (x ∷ d) h =
      elim (either (ltb l x)) [
        | inl e ↦ rw e (both_next d h (ltb-true l x e) (next_from (min a x) d (omega (arith, ltb-true l x e))))
        | inr e ↦ rw e (low_next x (ltb-false l x e) d (next_from a d h))
      ]

  pub next_is : (d : List ℕ) → Next d (reduce min (filter (λ r. ltb l r) d))
  next_is [] = record { none = λ i b. absurd (omega arith) }
  next_is (x ∷ d) =
      elim (either (ltb l x)) [
        | inl e ↦ rw e (next_from x d (ltb-true l x e))
        | inr e ↦ rw e (low_front x (ltb-false l x e) d _ (next_is d))
      ]
