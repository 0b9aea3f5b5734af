-- What a list tells is found out by tests: whether it is well named (`well_named`), and what it says of a letter. A
-- list is the history of a case exactly where it is well named and says of each signal what the case has heard
-- (`told_of_history`, `history_of_told`): the letters of different signals differ, so that a record is about one
-- signal alone. Assumes nothing.
use mathlib.Core.Path.{◌≡◌, refl, sym, ◌∙◌, ap, ap₂}
use mathlib.Core.Logic.{◌↔◌, inl, inr}
use mathlib.Core.Bool.{Bool, true, false, ◌&&◌, beq, or-true as or-true_right}
use mathlib.Core.List.{List, [], ◌∷◌}
use Prim.Native.Nat.{ℕ, zero, suc, ◌<◌}
use native.Mathlib.Omega.{arith}
use borrow.Author.Tests.{eqb-true, eq-eqb}
use lib.Dec.{eqb}
use lib.ListN.{length, get_or, length-map, get_or-map}
use Rattle.prelude.specs.Bytes.{distinct}
use Rattle.prelude.specs.Search.{when, answers}
use Rattle.prelude.specs.Lists.{In}
use Rattle.prelude.proofs.Tests.{clash, true_of_not-false, and-true, and_both, or-true, beq-refl, beq-true, same_tests}
use Rattle.prelude.proofs.Search.{none_of_first_below, when-none, answered, unanswered}
use Rattle.prelude.proofs.Lists.{each_mono, each_of_every, every_of_each, distinct_of_test, test_of_distinct}
use Rattle.network.specs.Build.{letter}
use Rattle.network.specs.Scenario.{truth}
use Rattle.network.specs.Strategy.{known}
use Rattle.network.specs.declared.Network.{Network}
use Rattle.names.specs.Defined.{place_of, all_defined_lem}
use Rattle.names.proofs.Labels.{all_defined-every, place_is}
use Rattle.dispatch.specs.Heard.{letters_of, no_heard, Defined, WellNamed, is_well_named, Lettered, says}
use Rattle.dispatch.specs.History.{History}
use Rattle.dispatch.specs.Due.{hears}
use Rattle.dispatch.specs.declared.Heard.{Heard}

abbrev pub record_of : ℕ → Bool → Heard
record_of l v = record { letter = l; truth = v }

-- the list says what stands in it, and what it says stands in it
says_of_in : (hs : List Heard) (h : Heard) → In h hs no_heard → says hs h.letter h.truth ≡ true
says_of_in hs h i = at_place hs i.place i.place_lt i.is
  where
    at_place : (hs : List Heard) (k : ℕ) → k < length hs → get_or hs k no_heard ≡ h → says hs h.letter h.truth ≡ true
    at_place [] k l e = absurd (omega arith)
    at_place (x ∷ hs) zero l e = rw (e, eq-eqb h.letter h.letter refl, beq-refl h.truth)
    at_place (x ∷ hs) (suc k) l e = rw (at_place hs k (omega arith) e)
        (or-true_right (eqb x.letter h.letter && beq x.truth h.truth))

in_of_says : (hs : List Heard) (l : ℕ) (v : Bool) → says hs l v ≡ true → In (record_of l v) hs no_heard
in_of_says [] l v e = clash false e refl
in_of_says (x ∷ hs) l v e =
    elim (or-true (eqb x.letter l && beq x.truth v) (says hs l v) e) [
      | inl q ↦
          let w = and-true (eqb x.letter l) (beq x.truth v) q in
          record {
            place = 0;
            place_lt = omega arith;
            is = same (eqb-true x.letter l w.0)
                (beq-true x.truth v w.1);
          }
      | inr q ↦ let i = in_of_says hs l v q in record
          { place = suc i.place; place_lt = omega (arith, i.place_lt); is = i.is }
    ]
  where
    same : x.letter ≡ l → x.truth ≡ v → x ≡ record_of l v
    same a b = ap₂ record_of a b

module _ (Γ : Network) where
  abbrev pub is_defined : ℕ → Bool
  is_defined l = answers (place_of Γ.signals Γ.letters l)

  -- a letter is found among the signals' exactly where it is one of them
  pub found-defined : (l : ℕ) → is_defined l ≡ true → Defined Γ l
  found-defined l e =
      let p = answered (place_of Γ.signals Γ.letters l) e in
      let at = place_is Γ.signals Γ.letters l p.0 p.1 in
      record { signal = p.0; below = at.below; is = at.letter }

  pub defined-found : (l : ℕ) → Defined Γ l → is_defined l ≡ true
  defined-found l d = true_of_not-false (is_defined l) (λ e.
      let miss = none_of_first_below (λ p. when (eqb (letter Γ p) l) p) Γ.signals
      (unanswered (place_of Γ.signals Γ.letters l) e) d.signal d.below in
      clash (eqb (letter Γ d.signal) l) (eq-eqb (letter Γ d.signal) l d.is)
      (when-none (eqb (letter Γ d.signal) l) d.signal miss))

  module _ (hs : List Heard) where
    abbrev ls : List ℕ
    ls = letters_of hs

    abbrev all-defined : Bool
    all-defined = all_defined_lem Γ.signals Γ.letters ls

    pub well_named : (is_well_named Γ hs ≡ true) ↔ WellNamed Γ hs
    well_named = (
      λ e.
          let p = and-true all-defined (distinct ls) e in
          let each = each_of_every is_defined ls (sym (all_defined-every Γ.signals Γ.letters ls) ∙ p.0) in
          record { defined = each_mono found-defined each; once = distinct_of_test ls p.1 },
      λ w.
          and_both all-defined (distinct ls)
          (all_defined-every Γ.signals Γ.letters ls
          ∙ every_of_each is_defined ls (each_mono defined-found w.defined))
          (test_of_distinct ls w.once),
    )

    -- the letter at a place of the list
    letter_at : (i : ℕ) → get_or ls i 0 ≡ (get_or hs i no_heard).letter
    letter_at i = get_or-map (λ h. h.letter) hs i no_heard

    sized : length ls ≡ length hs
    sized = length-map hs (λ h. h.letter)

  module _ (σ : List ℕ) (m : ℕ) {hs : List Heard} {s : ℕ} where
    -- each letter that a case has heard is a signal's
    pub named_of_history : History Γ σ m hs s → WellNamed Γ hs
    named_of_history h = record {
      defined = record {
        each = λ i l.
            let w = (h.exact (get_or hs i no_heard)).0
            (record { place = i; place_lt = omega (arith, sized hs); is = refl }) in
            rw (letter_at hs i) (record { signal = w.signal; below = w.below; is = w.named });
      };
      once = h.once;
    }

    pub told_of_history : Lettered Γ → History Γ σ m hs s → (p : ℕ) (v : Bool) → p < Γ.signals
        → says hs (letter Γ p) v ≡ hears Γ σ m s p v
    told_of_history lettered h p v l =
        same_tests (says hs (letter Γ p) v) (hears Γ σ m s p v)
        (λ e.
        let w = (h.exact (record_of (letter Γ p) v)).0 (in_of_says hs (letter Γ p) v e) in
        let same = lettered.once w.signal p w.below l w.named in
        and_both (known Γ σ s p m) (beq (truth s p) v) (rw same at w.heard)
        (rw (← w.told, same) (beq-refl (truth s p))))
        (λ e.
        let q = and-true (known Γ σ s p m) (beq (truth s p) v) e in
        says_of_in hs (record_of (letter Γ p) v)
        ((h.exact (record_of (letter Γ p) v)).1 (record {
          signal = p;
          below = l;
          named = refl;
          heard = q.0;
          told = beq-true (truth s p) v q.1;
        })))

    pub history_of_told : WellNamed Γ hs
        → ((p : ℕ) (v : Bool) → p < Γ.signals → says hs (letter Γ p) v ≡ hears Γ σ m s p v)
        → History Γ σ m hs s
    history_of_told w told = record {
      once = w.once;
      exact = λ h. (
        λ i.
            let d = w.defined.each i.place (omega (arith, i.place_lt, sized hs)) in
            let is = d.is ∙ (letter_at hs i.place ∙ ap (λ (x : Heard). x.letter) i.is) in
            let said = rw (← is) at (says_of_in hs h i) in
            let q = and-true (known Γ σ s d.signal m) (beq (truth s d.signal) h.truth)
            (sym (told d.signal h.truth d.below) ∙ said) in
            record {
              signal = d.signal;
              below = d.below;
              named = is;
              heard = q.0;
              told = beq-true
                  (truth s d.signal) h.truth q.1;
            },
        λ x.
            let e = and_both (known Γ σ s x.signal m) (beq (truth s x.signal) h.truth) x.heard
            (rw x.told (beq-refl h.truth)) in
            rw x.named at (in_of_says hs (letter Γ x.signal) h.truth
            (told x.signal h.truth x.below ∙ e)),
      );
    }
