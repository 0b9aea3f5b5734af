-- What a label means: a scenario satisfies the two sums of a label exactly when it gives each letter the truth that
-- the label asks. Assumes nothing.
use mathlib.Core.Path.{◌≡◌, refl, sym, ◌∙◌, ap}
use mathlib.Core.Logic.{inl, inr, ◌↔◌}
use mathlib.Core.Bool.{Bool, true, false, ◌&&◌, ◌||◌, not, beq}
use mathlib.Core.Option.{Option, none, some}
use mathlib.Core.List.{List, [], ◌∷◌}
use Prim.Native.Nat.{ℕ, ◌≤◌, ◌<◌}
use native.Mathlib.Omega.{arith}
use borrow.Author.Tests.{eqb-true, eq-eqb, not-true}
use lib.Dec.{eqb}
use Rattle.prelude.specs.Lists.{In}
use Rattle.prelude.specs.Bytes.{distinct}
use Rattle.prelude.proofs.Parts.{in_first, in_later, in_cons}
use Rattle.prelude.proofs.Tests.{clash, and-true, and_both, or-true, implied, implies, beq-refl, beq-true}
use Rattle.prelude.proofs.Bounded.{true_of_all_below, all_below_true}
use Rattle.network.specs.Limits as L
use Rattle.network.specs.Scenario.{truth, asked, satisfies}
use Rattle.network.specs.declared.Label.{Label}
use Rattle.names.specs.Names.{Literal, letters_of}
use Rattle.names.specs.Defined.{place_of, all_defined_lem, weights, mask_of}
use Rattle.names.proofs.Labels.{place_is, is_at, asks, sum_is}

or_left : (a b : Bool) → a ≡ true → a || b ≡ true
or_left a b e = rw e

or_right : (a b : Bool) → b ≡ true → a || b ≡ true
or_right true b e = refl
or_right false b e = e

module _ (k : ℕ) (letters : List ℕ) where
  at_here : (v : Bool) (p : ℕ) (l : Literal) → place_of k letters l.letter ≡ some p → l.value ≡ v
      → is_at k letters v p l ≡ true
  at_here v p l e h = rw (e, is_at, h) (and_both (beq v v) (eqb p p) (beq-refl v) (eq-eqb p p refl))

  pub at_place : (v : Bool) (p : ℕ) (l : Literal) → is_at k letters v p l ≡ true
      → (place_of k letters l.letter ≡ some p) × (l.value ≡ v)
  at_place v p l e = by_place (place_of k letters l.letter) refl e
    where
      by_place : (o : Option ℕ) → place_of k letters l.letter ≡ o
          → elim o [ none ↦ false | some q ↦ beq v l.value && eqb p q ] ≡ true
          → (place_of k letters l.letter ≡ some p) × (l.value ≡ v)
      by_place none h e = clash false e refl
      by_place (some q) h e =
          let w = and-true (beq v l.value) (eqb p q) e in
          (h ∙ ap some (sym (eqb-true p q w.1)), sym (beq-true v l.value w.0))

  -- a label's literals are read beyond their end as d
  module _ (d : Literal) where
    -- s gives each letter its truth: "`p!q` means p true and q false"
    pub record Agrees (s : ℕ) (ls : List Literal) : Type 0 where
      pub each : (l : Literal) → In l ls d → (p : ℕ) → place_of k letters l.letter ≡ some p → truth s p ≡ l.value

    -- the literal that asks for p
    pub record AskedBy (v : Bool) (p : ℕ) (ls : List Literal) : Type 0 where
      pub literal : Literal
      pub member : In literal ls d
      pub place : place_of k letters literal.letter ≡ some p
      pub value : literal.value ≡ v

    pub asks-in : (l : Literal) (p : ℕ) (ls : List Literal) → In l ls d → place_of k letters l.letter ≡ some p
        → asks k letters l.value p ls ≡ true
    asks-in l p [] i h = absurd (omega (arith, i.place_lt))
    asks-in l p (x ∷ xs) i h =
        elim (in_cons i) [
          | inl e ↦
              or_left (is_at k letters l.value p x) (asks k letters l.value p xs)
              (ap (is_at k letters l.value p) e ∙ at_here l.value p l h refl)
          | inr j ↦ or_right (is_at k letters l.value p x) (asks k letters l.value p xs) (asks-in l p xs j h)
        ]

    pub asks-by : (v : Bool) (p : ℕ) (ls : List Literal) → asks k letters v p ls ≡ true → AskedBy v p ls
    asks-by v p [] e = clash false e refl
    asks-by v p (l ∷ ls) e =
        elim (or-true (is_at k letters v p l) (asks k letters v p ls) e) [
          | inl h ↦
              let w = at_place v p l h in
              record { literal = l; member = in_first; place = w.0; value = w.1 }
          | inr h ↦
              let w = asks-by v p ls h in
              record { literal = w.literal; member = in_later w.member; place = w.place; value = w.value }
        ]

    module _ (s : ℕ) (ls : List Literal) (few : k ≤ L.signals)
        (defined : all_defined_lem k letters (letters_of ls) ≡ true) (unlike : distinct (letters_of ls) ≡ true) where
      abbrev ℓ : Label
      ℓ = mask_of k letters ls

      sums : (v : Bool) (p : ℕ) → p < L.signals → truth (weights k letters v ls) p ≡ asks k letters v p ls
      sums v = (sum_is k letters v ls few defined unlike).truths

      agrees_of_satisfies : satisfies s ℓ ≡ true → Agrees s ls
      unfolding satisfies
      agrees_of_satisfies e = record {
        each = λ l m p h. by_value l.value p (asks-in l p ls m h)
            (omega (arith, (place_is k letters l.letter p h).below));
      }
        where
          by_value : (v : Bool) (p : ℕ) → asks k letters v p ls ≡ true → p < L.signals → truth s p ≡ v
          by_value v p a below =
              let w = and-true (not (truth ℓ.positive p) || truth s p) (not (truth ℓ.negative p) || not (truth s p))
              (true_of_all_below (asked s ℓ) L.signals e p below) in
              elim v as (λ v. asks k letters v p ls ≡ true → truth s p ≡ v) [
                | true ↦ λ a. implied (truth ℓ.positive p) (truth s p) w.0 (sums true p below ∙ a)
                | false ↦ λ a.
                    not-true (truth s p)
                    (implied (truth ℓ.negative p) (not (truth s p)) w.1 (sums false p below ∙ a))
              ] a

      satisfies_of_agrees : Agrees s ls → satisfies s ℓ ≡ true
      unfolding satisfies
      satisfies_of_agrees g =
          all_below_true (asked s ℓ) L.signals
          (λ p below.
          and_both (not (truth ℓ.positive p) || truth s p) (not (truth ℓ.negative p) || not (truth s p))
          (implies (truth ℓ.positive p) (truth s p) (λ h. as_asked true p (sym (sums true p below) ∙ h)))
          (implies (truth ℓ.negative p) (not (truth s p))
          (λ h. ap not (as_asked false p (sym (sums false p below) ∙ h)))))
        where
          as_asked : (v : Bool) (p : ℕ) → asks k letters v p ls ≡ true → truth s p ≡ v
          as_asked v p a = let w = asks-by v p ls a in g.each w.literal w.member p w.place ∙ w.value

      pub satisfies-label : (satisfies s ℓ ≡ true) ↔ Agrees s ls
      satisfies-label = (agrees_of_satisfies, satisfies_of_agrees)
