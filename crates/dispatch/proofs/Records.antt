-- The records of the signals that are known, in the order of the signals. Each letter is that of a signal, so it is
-- defined. The letters of different signals differ: from signal i on no letter of a signal below i stands, so no letter
-- stands twice (`records_named`), and the list says of each signal its truth if it is known, since nothing after it
-- speaks of it again (`says_records`). Assumes nothing.
use mathlib.Core.Path.{◌≡◌, refl}
use mathlib.Core.Logic.{inl, inr}
use mathlib.Core.Bool.{Bool, true, false, ◌&&◌, ◌||◌, beq, cond, and-false, or-false}
use mathlib.Core.List.{List, ◌∷◌}
use Prim.Native.Nat.{ℕ, zero, suc, ◌+◌, ◌≤◌, ◌<◌}
use native.Mathlib.Omega.{arith}
use borrow.Author.Tests.{eq-eqb, ne_eqb}
use lib.Dec.{eqb}
use Rattle.prelude.specs.Bytes.{is_in, distinct}
use Rattle.prelude.proofs.Tests.{and_both, by_cond, eq_or_ne}
use Rattle.network.specs.Build.{letter}
use Rattle.network.specs.declared.Network.{Network}
use Rattle.names.specs.Defined.{all_defined_lem}
use Rattle.dispatch.specs.Heard.{letters_of, is_well_named, Lettered, records_from, records_of, says}
use Rattle.dispatch.specs.declared.Heard.{Heard}
use Rattle.dispatch.proofs.History.{is_defined, defined-found}

module _ (Γ : Network) (lettered : Lettered Γ) (known truth : ℕ → Bool) where
  -- the records of the n signals from i on
  abbrev from : ℕ → ℕ → List Heard
  from i n = records_from Γ known truth i n

  defined : (p : ℕ) → p < Γ.signals → is_defined Γ (letter Γ p) ≡ true
  defined p h = defined-found Γ (letter Γ p) (record { signal = p; below = h; is = refl })

  differ : (p q : ℕ) → p < Γ.signals → q < Γ.signals → (p ≡ q → ⊥) → eqb (letter Γ p) (letter Γ q) ≡ false
  differ p q hp hq n = ne_eqb _ _ (λ e. n (lettered.once p q hp hq e))

  all-defined : (i n : ℕ) → i + n ≤ Γ.signals → all_defined_lem Γ.signals Γ.letters (letters_of (from i n)) ≡ true
  all-defined i zero h = refl
  all-defined i (suc n) h =
      let rest = all-defined (suc i) n (omega arith) in
      by_cond (λ (l : List Heard). all_defined_lem Γ.signals Γ.letters (letters_of l) ≡ true) (known i)
      _ (from (suc i) n) (λ _. and_both _ _ (defined i (omega arith)) rest) (λ _. rest)

  -- the letter of a signal before them
  none_before : (p i n : ℕ) → p < i → i + n ≤ Γ.signals → is_in (letter Γ p) (letters_of (from i n)) ≡ false
  none_before p i zero l h = refl
  none_before p i (suc n) l h =
      let rest = none_before p (suc i) n (omega arith) (omega arith) in
      by_cond (λ (l : List Heard). is_in (letter Γ p) (letters_of l) ≡ false) (known i) _ (from (suc i) n)
      (λ _. rw (differ p i (omega arith) (omega arith) (omega arith)) rest) (λ _. rest)

  all_once : (i n : ℕ) → i + n ≤ Γ.signals → distinct (letters_of (from i n)) ≡ true
  all_once i zero h = refl
  all_once i (suc n) h =
      let rest = all_once (suc i) n (omega arith) in
      by_cond (λ (l : List Heard). distinct (letters_of l) ≡ true) (known i) _ (from (suc i) n)
      (λ _. rw (none_before i (suc i) n (omega arith) (omega arith)) rest) (λ _. rest)

  -- what is said of a letter by the record of signal i, if there is one, and by those after it
  says-from : (i n l : ℕ) (v : Bool)
      → says (from i (suc n)) l v
      ≡ (eqb (letter Γ i) l && (known i && beq (truth i) v)) || says (from (suc i) n) l v
  says-from i n l v = by-known (known i)
    where
      by-known : (k : Bool)
          → says (cond k (record { letter = letter Γ i; truth = truth i } ∷ from (suc i) n) (from (suc i) n)) l v
          ≡ (eqb (letter Γ i) l && (k && beq (truth i) v)) || says (from (suc i) n) l v
      by-known true = refl
      by-known false = rw (and-false (eqb (letter Γ i) l))

  says-before : (p i n : ℕ) (v : Bool) → p < i → i + n ≤ Γ.signals → says (from i n) (letter Γ p) v ≡ false
  says-before p i zero v l h = refl
  says-before p i (suc n) v l h =
      rw (says-from i n (letter Γ p) v, differ i p (omega arith) (omega arith) (omega arith))
      (says-before p (suc i) n v (omega arith) (omega arith))

  says_at : (p i n : ℕ) (v : Bool) → i ≤ p → p < i + n → i + n ≤ Γ.signals
      → says (from i n) (letter Γ p) v ≡ known p && beq (truth p) v
  says_at p i zero v a b h = absurd (omega arith)
  says_at p i (suc n) v a b h =
      elim (eq_or_ne i p) [
        | inl q ↦
            rw (
              says-from i n (letter Γ p) v,
              says-before p (suc i) n v (omega arith) (omega arith),
              q,
              eq-eqb (letter Γ p) (letter Γ p) refl,
            )
            (or-false (known p && beq (truth p) v))
        | inr q ↦
            rw (says-from i n (letter Γ p) v, differ i p (omega arith) (omega arith) q)
            (says_at p (suc i) n v (omega arith) (omega arith) (omega arith))
      ]

  abbrev all : List Heard
  all = records_of Γ known truth

  pub records_named : is_well_named Γ all ≡ true
  records_named =
      and_both (all_defined_lem Γ.signals Γ.letters (letters_of all)) (distinct (letters_of all))
      (all-defined 0 Γ.signals (omega arith)) (all_once 0 Γ.signals (omega arith))

  pub says_records : (p : ℕ) (v : Bool) → p < Γ.signals → says all (letter Γ p) v ≡ known p && beq (truth p) v
  says_records p v h = says_at p 0 Γ.signals v (omega arith) (omega arith) (omega arith)
