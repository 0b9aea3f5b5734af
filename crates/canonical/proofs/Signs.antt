-- A label of the form, letter by letter: its letters are letters of signals and are distinct, and the label that is
-- read from them is the label that was written. The sum of the weights of the letters that stand with a truth is the
-- sum of the weights of the signals that the label asks for with it, signal by signal. Assumes nothing.
use mathlib.Core.Path.{◌≡◌, refl, ◌∙◌, ap}
use mathlib.Core.Bool.{Bool, true, false, cond}
use mathlib.Core.Option.{some}
use mathlib.Core.List.{List, []}
use Prim.Native.Nat.{ℕ, zero, suc, ◌^◌, ◌≤◌, ◌<◌}
use native.Mathlib.Omega.{arith}
use Rattle.prelude.specs.Bounded.{sum_below}
use Rattle.prelude.specs.Gather.{ahead, gather}
use Rattle.prelude.specs.Lists.{In, Distinct, Each}
use Rattle.prelude.proofs.Tests.{clash}
use Rattle.prelude.proofs.Search.{none-not-some}
use Rattle.prelude.proofs.Gather.{gather-more}
use Rattle.network.specs.Build.{letter}
use Rattle.network.specs.Scenario.{truth}
use Rattle.network.specs.declared.Label.{Label}
use Rattle.network.specs.declared.Network.{Network}
use Rattle.names.specs.Names.{Literal, letters_of}
use Rattle.names.specs.Defined.{weight, weights, mask_of}
use Rattle.names.proofs.Apart.{Apart}
use Rattle.names.proofs.Sums.{weight_of, weights-append, weight_in, truths_sum}
use Rattle.canonical.specs.House.{literal, literal_by, literal_at, literals_of}
use Rattle.canonical.proofs.Keyed.{LettersAre, keys_known, keys_once}

pub letter-by : (b : ℕ) (s t : Bool) (l : Literal) → literal_by b s t ≡ some l → l.letter ≡ b
letter-by b true t l e = cc
letter-by b false true l e = cc
letter-by b false false l e = none-not-some l e

module _ (Γ : Network) (ℓ : Label) (k : ℕ) (bs : List ℕ) (w : LettersAre Γ k bs) where
  -- what is asked of a signal has its letter
  asked-letter : (p : ℕ) (l : Literal) → literal_at Γ ℓ p ≡ some l → l.letter ≡ letter Γ p
  asked-letter p l e = letter-by (letter Γ p) (truth ℓ.positive p) (truth ℓ.negative p) l e

  -- each letter is a signal's, and stands once
  pub letters-known : Each (λ b. In b bs 0) (letters_of (literals_of Γ ℓ)) 0
  letters-known = keys_known w (literal_at Γ ℓ) (literal 0 true) (λ l. l.letter) asked-letter

  pub letters_once : Distinct (letters_of (literals_of Γ ℓ)) 0
  letters_once = keys_once w (literal_at Γ ℓ) (literal 0 true) (λ l. l.letter) asked-letter

-- the sum that a truth has in a label
abbrev sum_of : Bool → Label → ℕ
sum_of true ℓ = ℓ.positive
sum_of false ℓ = ℓ.negative

-- the sum over what a label asks of a letter with the weight q
weights-by : (k : ℕ) (bs : List ℕ) (b q : ℕ) → weight k bs b ≡ q → (v s t : Bool) → (s ≡ true → t ≡ false)
    → weights k bs v (ahead (literal_by b s t) []) ≡ cond (cond v s t) q 0
weights-by k bs b q e true true t h = omega (arith, e)
weights-by k bs b q e true false true h = omega arith
weights-by k bs b q e true false false h = refl
weights-by k bs b q e false true true h = clash true refl (h refl)
weights-by k bs b q e false true false h = omega arith
weights-by k bs b q e false false true h = omega (arith, e)
weights-by k bs b q e false false false h = refl

truth_sum : (v : Bool) (ℓ : Label) (p : ℕ)
    → cond v (truth ℓ.positive p) (truth ℓ.negative p) ≡ truth (sum_of v ℓ) p
truth_sum true ℓ p = refl
truth_sum false ℓ p = refl

module _ (Γ : Network) (ℓ : Label) (apart : Apart ℓ) (k : ℕ) (bs : List ℕ) (w : LettersAre Γ k bs) (v : Bool) where
  -- the weight of what the label asks of one signal
  weight-at : (p : ℕ) → p < k → weights k bs v (ahead (literal_at Γ ℓ p) []) ≡ weight_in (sum_of v ℓ) p
  weight-at p h =
      let size = w.sized in
      let is : weight k bs (letter Γ p) ≡ 2 ^ p =
      rw (w.are p h, ← w.sized) (weight_of bs w.once p (omega arith)) in
      weights-by k bs (letter Γ p) (2 ^ p) is v (truth ℓ.positive p) (truth ℓ.negative p)
      (apart.apart p (omega (arith, w.few)))
      ∙ ap (λ (t : Bool). cond t (2 ^ p) 0) (truth_sum v ℓ p)

  weights-below : (n : ℕ) → n ≤ k → weights k bs v (gather n (literal_at Γ ℓ)) ≡ sum_below n (weight_in (sum_of v ℓ))
  weights-below zero h = refl
  weights-below (suc n) h =
      rw (
        gather-more (literal_at Γ ℓ) n,
        weights-append k bs v (gather n (literal_at Γ ℓ))
            (ahead (literal_at Γ ℓ n) []),
      )
      (omega (arith, weights-below n (omega arith), weight-at n h))

  weights-literals : sum_of v ℓ < 2 ^ k → weights k bs v (literals_of Γ ℓ) ≡ sum_of v ℓ
  weights-literals h =
      rw w.count (weights-below k (omega arith) ∙ truths_sum k (sum_of v ℓ) w.few h)

pub mask-literals : (Γ : Network) (ℓ : Label) (k : ℕ) (bs : List ℕ) → LettersAre Γ k bs → Apart ℓ → ℓ.positive < 2 ^ k
    → ℓ.negative < 2 ^ k → mask_of k bs (literals_of Γ ℓ) ≡ ℓ
mask-literals Γ ℓ k bs w a p n = λ i. record {
  positive = weights-literals Γ ℓ a k bs w true p i;
  negative = weights-literals Γ ℓ a k bs w false n i;
}
