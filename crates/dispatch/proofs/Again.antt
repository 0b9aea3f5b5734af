-- The mask of a list is made again by the records that it names. The mask of a list that fits is the sum of its
-- records' weights, since each bit is new (`said-weights`). One record more, of a signal whose letter does not stand
-- yet, is one more record named, and those of the other signals stay (`named_more`). So along the list the weights of
-- the records named stay the mask itself (`named_again`). Assumes nothing.
use mathlib.Core.Path.{◌≡◌, refl, ◌∙◌}
use mathlib.Core.Logic.{inl, inr}
use mathlib.Core.Bool.{Bool, true, false, ◌&&◌, ◌||◌, beq, cond}
use mathlib.Core.List.{List, [], ◌∷◌}
use Prim.Native.Nat.{ℕ, zero, suc, ◌+◌, ◌^◌, ◌≤◌, ◌<◌}
use native.Mathlib.Omega.{arith}
use borrow.Author.Tests.{eq-eqb, ne_eqb}
use lib.Dec.{eqb}
use Rattle.prelude.proofs.Tests.{and-true, eq_or_ne}
use Rattle.network.specs.Build.{letter}
use Rattle.network.specs.declared.Network.{Network}
use Rattle.names.specs.Defined.{all_defined_lem}
use Rattle.dispatch.specs.Heard.{letters_of, Lettered, records_from}
use Rattle.dispatch.specs.Said.{bit_of, with_bit, said_on, stands_on, with_heard, said_from, records_on}
use Rattle.dispatch.specs.declared.Heard.{Heard}
use Rattle.dispatch.proofs.Bits.{add_bit}
use Rattle.dispatch.proofs.History.{is_defined, found-defined}
use Rattle.dispatch.proofs.Letters.{nothing_said, said-with}
use Rattle.dispatch.proofs.Fold.{free, fits, free_unsaid, with_heard_free, fits-with_heard, fits-first}

abbrev weights : List Heard → ℕ
weights [] = 0
weights (h ∷ hs) = 2 ^ bit_of h.letter h.truth + weights hs

with_free : (x l : ℕ) → free x l ≡ true → (v : Bool) → with_bit x (bit_of l v) ≡ x + 2 ^ bit_of l v
with_free x l f v = add_bit x (bit_of l v) (free_unsaid x l f v)

pub said-weights : (x : ℕ) (hs : List Heard) → fits x (letters_of hs) ≡ true → said_from x hs ≡ x + weights hs
said-weights x [] w = omega arith
said-weights x (h ∷ hs) w =
    let f = fits-first x h.letter (letters_of hs) w in
    let rest = said-weights (with_heard x h) hs (fits-with_heard x h f (letters_of hs) ∙ w) in
    omega (arith, rest, with_heard_free x h f, with_free x h.letter f h.truth)

module _ (Γ : Network) where
  -- the records that x names of the n signals from i on
  abbrev pub named-from : ℕ → ℕ → ℕ → List Heard
  named-from x i n = records_from Γ (λ p. stands_on x (letter Γ p)) (λ p. said_on x (letter Γ p) true) i n

  -- the weight of the record that x names of the letter l
  abbrev weight : ℕ → ℕ → ℕ
  weight x l = cond (stands_on x l) (2 ^ bit_of l (said_on x l true)) 0

  weights-from : (x i n : ℕ)
      → weights (named-from x i (suc n)) ≡ weight x (letter Γ i) + weights (named-from x (suc i) n)
  weights-from x i n = by (stands_on x (letter Γ i)) (said_on x (letter Γ i) true) (named-from x (suc i) n)
    where
      by : (s v : Bool) (hs : List Heard)
          → weights (cond s (record { letter = letter Γ i; truth = v } ∷ hs) hs)
          ≡ cond s (2 ^ bit_of (letter Γ i) v) 0 + weights hs
      by true v hs = refl
      by false v hs = omega arith

  weight-none : (x l : ℕ) → ((v : Bool) → said_on x l v ≡ false) → weight x l ≡ 0
  weight-none x l n = rw (n true, n false)

  pub named-nothing : (i n : ℕ) → weights (named-from 0 i n) ≡ 0
  named-nothing i zero = refl
  named-nothing i (suc n) =
      omega (arith, weights-from 0 i n, weight-none 0 (letter Γ i) (nothing_said (letter Γ i)), named-nothing (suc i) n)

  module _ (lettered : Lettered Γ) where
    -- one record more, of the signal q
    module _ (x q : ℕ) (v : Bool) (h : q < Γ.signals) (f : free x (letter Γ q) ≡ true) where
      abbrev more : ℕ
      more = with_bit x (bit_of (letter Γ q) v)

      said_of : (p : ℕ) (w : Bool) → p < Γ.signals
          → said_on more (letter Γ p) w ≡ (eqb (letter Γ q) (letter Γ p) && beq v w) || said_on x (letter Γ p) w
      said_of p w k = said-with x (letter Γ q) v (lettered.lower q h) (letter Γ p) w (lettered.lower p k)

      weight_own : weight more (letter Γ q) ≡ 2 ^ bit_of (letter Γ q) v
      weight_own =
          let l = letter Γ q in
          let none = free_unsaid x l f in
          rw (said_of q true h, said_of q false h, none true, none false, eq-eqb l l refl) (by v)
        where
          by : (v : Bool)
              → cond ((beq v true || false) || (beq v false || false))
              (2 ^ bit_of (letter Γ q) (beq v true || false)) 0
              ≡ 2 ^ bit_of (letter Γ q) v
          by true = refl
          by false = refl

      weight-other : (p : ℕ) → p < Γ.signals → (q ≡ p → ⊥) → weight more (letter Γ p) ≡ weight x (letter Γ p)
      weight-other p k n =
          rw (said_of p true k, said_of p false k, ne_eqb (letter Γ q) (letter Γ p) (λ e. n (lettered.once q p h k e)))

      named_past : (i n : ℕ) → q < i → i + n ≤ Γ.signals → weights (named-from more i n) ≡ weights (named-from x i n)
      named_past i zero l k = refl
      named_past i (suc n) l k =
          omega (
            arith,
            weights-from more i n,
            weights-from x i n,
            weight-other i (omega arith) (λ e. omega arith),
            named_past (suc i) n (omega arith) (omega arith),
          )

      named_more : (i n : ℕ) → i ≤ q → q < i + n → i + n ≤ Γ.signals
          → weights (named-from more i n) ≡ weights (named-from x i n) + 2 ^ bit_of (letter Γ q) v
      named_more i zero a b k = absurd (omega arith)
      named_more i (suc n) a b k = elim (eq_or_ne q i) [
        | inl e ↦ rw (← e) (omega (
          arith,
          weights-from more q n,
          weights-from x q n,
          weight_own,
          weight-none x (letter Γ q) (free_unsaid x (letter Γ q) f),
          named_past (suc q) n (omega arith) (omega arith),
        ))
        | inr e ↦ omega (
          arith,
          weights-from more i n,
          weights-from x i n,
          weight-other i (omega arith) e,
          named_more (suc i) n (omega arith) (omega arith) (omega arith),
        )
      ]

    -- along a list that fits, with letters of signals
    pub named_again : (x : ℕ) (hs : List Heard) → all_defined_lem Γ.signals Γ.letters (letters_of hs) ≡ true
        → fits x (letters_of hs) ≡ true → weights (records_on Γ x) ≡ x
        → weights (records_on Γ (said_from x hs)) ≡ said_from x hs
    named_again x [] d w e = e
    named_again x (h ∷ hs) d w e =
        let ls = letters_of hs in
        let f = fits-first x h.letter ls w in
        let ds = and-true (is_defined Γ h.letter) (all_defined_lem Γ.signals Γ.letters ls) d in
        let s = found-defined Γ h.letter ds.0 in
        let g = rw (← s.is) at f in
        let one : with_heard x h ≡ with_bit x (bit_of (letter Γ s.signal) h.truth) =
        rw s.is (with_heard_free x h f) in
        named_again (with_heard x h) hs ds.1 (fits-with_heard x h f ls ∙ w)
        (rw one (omega (
          arith,
          e,
          with_free x (letter Γ s.signal) g h.truth,
          named_more x s.signal h.truth s.below g 0 Γ.signals (omega arith) (omega arith) (omega arith),
        )))
