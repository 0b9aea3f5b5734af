-- Networks that say the same play every table alike, by a list and by a mask. Assumes nothing.
use mathlib.Core.Path.{◌≡◌, refl, ◌∙◌, ap, ap₂}
use mathlib.Core.Bool.{Bool, true, false, ◌&&◌, beq, cond}
use mathlib.Core.Option.{Option, none, some}
use mathlib.Core.List.{List, [], ◌∷◌}
use Prim.Native.Nat.{ℕ, zero, suc, ◌+◌, ◌^◌}
use native.Mathlib.Omega.{arith}
use lib.Dec.{eqb}
use Rattle.std.specs.Prelude.{Result, Ok, Err}
use Rattle.prelude.specs.Bytes.{distinct}
use Rattle.prelude.specs.Search.{when, answers}
use Rattle.prelude.specs.Bounded.{sum_below}
use Rattle.prelude.proofs.Bounded.{sum_below-same}
use Rattle.network.specs.Build.{letter}
use Rattle.network.specs.Scenario.{truth}
use Rattle.network.specs.declared.Network.{Network}
use Rattle.names.specs.Defined.{place_of, all_defined_lem}
use Rattle.dispatch.specs.Heard.{letters_of, is_well_named, says, records_from}
use Rattle.dispatch.specs.Due.{is_due_lem, as_heard, has_heard_lem, hearer, due_for, due_by, due}
use Rattle.dispatch.specs.Said.{said_on, stands_on, said_from, well_named_on, due_on}
use Rattle.dispatch.specs.declared.Heard.{Heard}
use Rattle.dispatch.specs.declared.Unanswered.{Unanswered}
use Rattle.dispatch.specs.declared.Unanswered.TheVariants.{Misnamed}
use Rattle.tighten.proofs.Agree.{scenarios-agree, happens-agree, time-agree}
use Rattle.calls.proofs.Likewise.{Likewise}
use Rattle.calls.proofs.LikeVerdicts.{first-same, all_same, known_same}

module _ {Γ Δ : Network} (w : Likewise Γ Δ) where
  -- letters are found alike
  named-same : (hs : List Heard) → is_well_named Γ hs ≡ is_well_named Δ hs
  named-same hs = ap (λ (b : Bool). b && distinct (letters_of hs)) (by-letters (letters_of hs))
    where
      place_same : (b : ℕ) → place_of Γ.signals Γ.letters b ≡ place_of Δ.signals Δ.letters b
      place_same b =
          first-same (λ p. when (eqb (letter Γ p) b) p) (λ p. when (eqb (letter Δ p) b) p) w.agrees.signals (λ p l.
          ap (λ (a : ℕ). when (eqb a b) p) (w.letters p l))

      by-letters : (bs : List ℕ) → all_defined_lem Γ.signals Γ.letters bs ≡ all_defined_lem Δ.signals Δ.letters bs
      by-letters [] = refl
      by-letters (b ∷ bs) = ap₂ (λ (o : Option ℕ) (t : Bool). answers o && t) (place_same b) (by-letters bs)

  -- the records that a mask names
  records_same : (x i n : ℕ) → i + n ≡ Γ.signals
      → records_from Γ (λ p. stands_on x (letter Γ p)) (λ p. said_on x (letter Γ p) true) i n
      ≡ records_from Δ (λ p. stands_on x (letter Δ p)) (λ p. said_on x (letter Δ p) true) i n
  records_same x i zero e = refl
  records_same x i (suc n) e =
      ap₂ (λ (l : ℕ) (rest : List Heard).
      cond (stands_on x l) (record { letter = l; truth = said_on x l true } ∷ rest) rest)
      (w.letters i (omega arith)) (records_same x (suc i) n (omega arith))

  named-on-same : (x : ℕ) → well_named_on Γ x ≡ well_named_on Δ x
  named-on-same x =
      let known : ℕ → Bool = λ p. stands_on x (letter Δ p) in
      let said : ℕ → Bool = λ p. said_on x (letter Δ p) true in
      ap (λ (hs : List Heard). eqb (said_from 0 hs) x)
      (records_same x 0 Γ.signals (omega arith)
      ∙ ap (λ (k : ℕ). records_from Δ known said 0 k) w.agrees.signals)

  module _ (σ : List ℕ) (m : ℕ) where
    hearer-same : (said : ℕ → Bool → Bool) → hearer Γ σ m said ≡ hearer Δ σ m said
    hearer-same said =
        first-same (λ s. when (has_heard_lem Γ σ m said s) s) (λ s. when (has_heard_lem Δ σ m said s) s)
        (scenarios-agree w.agrees) (λ s l.
        ap (λ (b : Bool). when b s) (all_same (as_heard Γ σ m said s) (as_heard Δ σ m said s) w.agrees.signals (λ p h.
        ap₂ (λ (a : ℕ) (k : Bool).
        beq (said a true) (k && beq (truth s p) true) && beq (said a false)
        (k && beq (truth s p) false)) (w.letters p h) (known_same w σ s p m h))))

    for_same : (o : Option ℕ) → due_for Γ σ m o ≡ due_for Δ σ m o
    for_same none = refl
    for_same (some s) = ap (λ (n : ℕ). Ok n)
        (sum_below-same (λ u. cond (is_due_lem Γ σ m s u) (2 ^ u) 0) (λ u. cond (is_due_lem Δ σ m s u) (2 ^ u) 0)
        Γ.events
        (λ u _.
        ap (λ (b : Bool). cond b (2 ^ u) 0)
        (ap₂ (λ (b : Bool) (t : ℕ). b && eqb t m) (happens-agree w.agrees s u) (time-agree w.agrees σ s u)))
        ∙ ap (λ (n : ℕ). sum_below n (λ u. cond (is_due_lem Δ σ m s u) (2 ^ u) 0)) w.agrees.events)

    by-same : (b : Bool) (said : ℕ → Bool → Bool) → due_by Γ σ m b said ≡ due_by Δ σ m b said
    by-same b said =
        ap (λ (d : Result ℕ Unanswered). cond b d (Err Misnamed)) (for_same (hearer Γ σ m said) ∙ ap (due_for Δ σ m)
        (hearer-same said))

    pub due-same : (hs : List Heard) → due Γ σ m hs ≡ due Δ σ m hs
    unfolding due
    due-same hs = by-same (is_well_named Γ hs) (says hs) ∙ ap (λ (b : Bool). due_by Δ σ m b (says hs)) (named-same hs)

    pub due-on-same : (x : ℕ) → due_on Γ σ m x ≡ due_on Δ σ m x
    unfolding due_on
    due-on-same x =
        by-same (well_named_on Γ x) (said_on x) ∙ ap (λ (b : Bool). due_by Δ σ m b (said_on x)) (named-on-same x)
