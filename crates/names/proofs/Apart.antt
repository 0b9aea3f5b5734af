-- A label that was read asks no letter to be both true and false, since its letters are distinct. Assumes nothing.
use mathlib.Core.Path.{◌≡◌, refl, sym, ◌∙◌}
use mathlib.Core.Logic.{◌⊎◌, inl, inr}
use mathlib.Core.Bool.{Bool, true, false, not}
use mathlib.Core.List.{List, [], ◌∷◌}
use Prim.Native.Nat.{ℕ, ◌≤◌, ◌<◌}
use borrow.Author.Tests.{not-true}
use Rattle.prelude.specs.Bytes.{is_in, distinct}
use Rattle.prelude.proofs.Tests.{clash, and-true, or-true, or_neither, false_of_not-true}
use Rattle.network.specs.Limits as L
use Rattle.network.specs.Scenario.{truth}
use Rattle.network.specs.declared.Label.{Label}
use Rattle.names.specs.Names.{Literal, letters_of}
use Rattle.names.specs.Defined.{all_defined_lem, mask_of}
use Rattle.names.proofs.Labels.{is_at, asks, asks_none, sum_is, place_is}
use Rattle.names.proofs.Satisfies.{at_place}

-- the label asks no letter to be both true and false
pub record Apart (ℓ : Label) : Type 0 where
  pub apart : (p : ℕ) → p < L.signals → truth ℓ.positive p ≡ true → truth ℓ.negative p ≡ false

module _ (k : ℕ) (letters : List ℕ) where
  -- a signal that one literal asks for is asked for by no other
  asked-once : (p : ℕ) (l : Literal) (ls : List Literal) → is_in l.letter (letters_of ls) ≡ false → (v w : Bool)
      → is_at k letters v p l ≡ true → asks k letters w p ls ≡ false
  asked-once p l ls n v w e =
      asks_none k letters w l.letter p ls (place_is k letters l.letter p (at_place k letters v p l e).0).letter
      n

  asks-apart : (p : ℕ) (ls : List Literal) → distinct (letters_of ls) ≡ true → asks k letters true p ls ≡ true
      → asks k letters false p ls ≡ false
  asks-apart p [] d e = refl
  asks-apart p (l ∷ ls) d e =
      let w = and-true (not (is_in l.letter (letters_of ls))) (distinct (letters_of ls)) d in
      let new = not-true (is_in l.letter (letters_of ls)) w.0 in
      or_neither (is_at k letters false p l) (asks k letters false p ls)
      (false_of_not-true (is_at k letters false p l)
      (λ h. first new h (or-true (is_at k letters true p l) (asks k letters true p ls) e)))
      (elim (or-true (is_at k letters true p l) (asks k letters true p ls) e) [
        | inl h ↦ asked-once p l ls new true false h
        | inr h ↦ asks-apart p ls w.1 h
      ])
    where
      first : is_in l.letter (letters_of ls) ≡ false → is_at k letters false p l ≡ true
          → (is_at k letters true p l ≡ true) ⊎ (asks k letters true p ls ≡ true) → ⊥
      first new h (inl t) = clash true refl (sym (at_place k letters true p l t).1 ∙ (at_place k letters false p l h).1)
      first new h (inr t) = clash (asks k letters true p ls) t (asked-once p l ls new false true h)

  pub mask-apart : (ls : List Literal) → k ≤ L.signals → all_defined_lem k letters (letters_of ls) ≡ true
      → distinct (letters_of ls) ≡ true → Apart (mask_of k letters ls)
  mask-apart ls few d n = record {
    apart = λ p h e.
        (sum_is k letters false ls few d n).truths p h
        ∙ asks-apart p ls n (sym ((sum_is k letters true ls few d n).truths p h) ∙ e);
  }
