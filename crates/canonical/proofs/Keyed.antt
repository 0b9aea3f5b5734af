-- What is gathered in signal order and told by the signals' letters, as the letters of a label and the reactions: its
-- letters are letters of signals and are distinct. Assumes nothing.
use mathlib.Core.Path.{◌≡◌, sym, ◌∙◌}
use mathlib.Core.Option.{Option, some}
use mathlib.Core.List.{List, map}
use Prim.Native.Nat.{ℕ, ◌≤◌, ◌<◌}
use native.Mathlib.Omega.{arith}
use lib.ListN.{length, get_or, length-map}
use Rattle.prelude.specs.Gather.{gather}
use Rattle.prelude.specs.Lists.{In, Distinct, Each}
use Rattle.prelude.proofs.Lists.{distinct_of_later}
use Rattle.prelude.proofs.Gather.{Answer, gather-answer, gather-ordered}
use Rattle.prelude.proofs.Mapped.{get_d_map}
use Rattle.network.specs.Limits as L
use Rattle.network.specs.Build.{letter}
use Rattle.network.specs.declared.Network.{Network}

-- k signals of the network have these letters, which are distinct
pub record LettersAre (Γ : Network) (k : ℕ) (bs : List ℕ) : Type 0 where
  pub count : Γ.signals ≡ k
  pub sized : length bs ≡ k
  pub few : k ≤ L.signals
  pub are : (p : ℕ) → p < k → letter Γ p ≡ get_or bs p 0
  pub once : Distinct bs 0

-- a letter is that of one signal
pub letter-tells : {Γ : Network} {k : ℕ} {bs : List ℕ} → LettersAre Γ k bs → (p q : ℕ) → p < Γ.signals
    → q < Γ.signals → letter Γ p ≡ letter Γ q → p ≡ q
letter-tells w p q h l e =
    let count = w.count in
    let size = w.sized in
    w.once.once p q (omega arith) (omega arith) (sym (w.are p (omega arith)) ∙ e ∙ w.are q (omega arith))

module _ {Γ : Network} {k : ℕ} {bs : List ℕ} (w : LettersAre Γ k bs) {A : Type 0} (f : ℕ → Option A) (d : A)
    (key : A → ℕ) (keyed : (p : ℕ) (x : A) → f p ≡ some x → key x ≡ letter Γ p) where
  abbrev xs : List A
  xs = gather Γ.signals f

  -- what stands at i is the answer of a signal, and has its letter
  abbrev AnswerAt : ℕ → Type 0
  AnswerAt i = Answer f 0 Γ.signals (get_or xs i d)

  number_lt : (i : ℕ) (a : AnswerAt i) → a.number < length bs
  number_lt i a = omega (arith, a.below, w.count, w.sized)

  letter_at : (i : ℕ) → i < length xs → (a : AnswerAt i) → get_or bs a.number 0 ≡ get_or (map key xs) i 0
  letter_at i h a =
      let p = a.number in
      sym (w.are p (omega (arith, number_lt i a, w.sized))) ∙ sym (keyed p (get_or xs i d) a.is)
      ∙ sym (get_d_map key d 0 xs i h)

  pub keys_known : Each (λ b. In b bs 0) (map key xs) 0
  keys_known = record {
    each = λ i h.
        let l : i < length xs = omega (arith, length-map xs key) in
        let a = gather-answer f d 0 Γ.signals i l in
        record { place = a.number; place_lt = number_lt i a; is = letter_at i l a };
  }

  pub keys_once : Distinct (map key xs) 0
  keys_once =
      distinct_of_later 0 (map key xs) (λ i j h l e.
      let few = length-map xs key in
      let o = gather-ordered f d 0 Γ.signals i j h (omega arith) in
      let a = o.first in
      let b = o.second in
      let same =
      w.once.once a.number b.number (number_lt i a) (number_lt j b)
      (letter_at i (omega arith) a ∙ e ∙ sym (letter_at j (omega arith) b)) in
      omega (arith, o.order))
