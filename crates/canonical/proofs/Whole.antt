-- The labels of the form lack no part of the label of an event whose signal they use, since the network's do not: what
-- includes another label has its letters, with their signs. Assumes nothing.
use mathlib.Core.Path.{◌≡◌, refl, sym, ◌∙◌, ap}
use mathlib.Core.Bool.{Bool, true, false, ◌||◌}
use mathlib.Core.Option.{some}
use mathlib.Core.List.{List, [], map}
use Prim.Native.Nat.{ℕ, ◌<◌}
use native.Mathlib.Omega.{arith}
use lib.ListN.{length, get_or, length-map}
use Rattle.prelude.specs.Lists.{In, Each}
use Rattle.prelude.proofs.Bounded.{length-tabulate, get_d_tabulate}
use Rattle.prelude.proofs.Gather.{gather-answer, in_gather}
use Rattle.prelude.proofs.Mapped.{get_d_map}
use Rattle.prelude.proofs.Search.{none-not-some}
use Rattle.prelude.proofs.Tests.{clash}
use Rattle.network.specs.Build.{name_of_lem, letter, observation, event_label}
use Rattle.network.specs.Scenario.{truth}
use Rattle.network.specs.Happens.{mentions}
use Rattle.network.specs.Complete as N
use Rattle.network.specs.declared.Label.{Label}
use Rattle.network.specs.declared.Network.{Network}
use Rattle.names.specs.Names.{Literal}
use Rattle.names.proofs.Apart.{Apart}
use Rattle.layout.specs.Contents.{Signal, Case, no_signal, no_case, no_literal}
use Rattle.layout.specs.Labelled.{Complete}
use Rattle.canonical.specs.Listed.{labelled_of}
use Rattle.canonical.specs.House.{literal_by, literal_at, literals_of, signal_at, signals_of, as_case, house_of}
use Rattle.canonical.proofs.Keyed.{letter-tells}
use Rattle.canonical.proofs.Signs.{letter-by}
use Rattle.canonical.proofs.Listed.{listed-section}
use Rattle.canonical.proofs.Labelled.{each-labelled}
use Rattle.canonical.proofs.Faithful.{Faithful, event-tells, letters-held}

-- what is asked of a letter is asked by a label that asks no less, and not the contrary
literal-kept : (b : ℕ) (s t s' t' : Bool) (m : Literal) → (s ≡ true → s' ≡ true) → (t ≡ true → t' ≡ true)
    → (s' ≡ true → t' ≡ false) → literal_by b s t ≡ some m → literal_by b s' t' ≡ some m
literal-kept b true t true t' m f g a e = e
literal-kept b true t false t' m f g a e = clash false (f refl) refl
literal-kept b false true true t' m f g a e = clash t' (g refl) (a refl)
literal-kept b false true false true m f g a e = e
literal-kept b false true false false m f g a e = clash false (g refl) refl
literal-kept b false false s' t' m f g a e = none-not-some m e

mentioned : (b : ℕ) (s t : Bool) (m : Literal) → literal_by b s t ≡ some m → s || t ≡ true
mentioned b true t m e = refl
mentioned b false true m e = refl
mentioned b false false m e = none-not-some m e

module _ {sheet : List ℕ} {Γ : Network} (t : Faithful sheet Γ) where
  literals_included : (ℓ κ : Label) → Apart ℓ → N.Includes ℓ κ
      → Each (λ m. In m (literals_of Γ ℓ) no_literal) (literals_of Γ κ) no_literal
  literals_included ℓ κ apart w = record {
    each = λ i h.
        let a = gather-answer (literal_at Γ κ) no_literal 0 Γ.signals i h in
        let p = a.number in
        in_gather (literal_at Γ ℓ) no_literal 0 Γ.signals (get_or (literals_of Γ κ) i no_literal) (record {
          number = p;
          from = omega arith;
          below = a.below;
          is = literal-kept (letter Γ p) (truth κ.positive p) (truth κ.negative p)
              (truth ℓ.positive p) (truth ℓ.negative p) _ (w.positive p) (w.negative p)
              (apart.apart p (omega (arith, a.below, t.formed.signals))) a.is;
        });
  }

  module _ (ℓ : Label) (apart : Apart ℓ) (complete : N.Complete Γ ℓ) where
    abbrev ls : List Literal
    ls = literals_of Γ ℓ

    -- signal p stands in ℓ, and event u gives the signal of p's letter
    includes-at : (p q u : ℕ) → p < Γ.signals → mentions ℓ p ≡ true → q < Γ.signals → u < Γ.events
        → letter Γ p ≡ letter Γ q → name_of_lem Γ sheet (observation Γ q) ≡ name_of_lem Γ sheet u
        → Each (λ m. In m ls no_literal) (literals_of Γ (event_label Γ u)) no_literal
    includes-at p q u h m l k e f =
        let o : observation Γ q < Γ.events = t.formed.observed q l in
        let event : observation Γ q ≡ u =
        event-tells t (observation Γ q) u k (get_d_tabulate (name_of_lem Γ sheet) Γ.events (observation Γ q) [] o
        ∙ f) in
        let same : observation Γ p ≡ u = ap (observation Γ) (letter-tells (letters-held t) p q h l e) ∙ event in
        rw (← same) (literals_included ℓ (event_label Γ (observation Γ p)) apart (complete.includes p h m))

    -- the same of a letter, a signal and a line of the form
    letter_in : (l : Literal) → In l ls no_literal
        → (p : ℕ) × (p < Γ.signals) × (mentions ℓ p ≡ true) × (l.letter ≡ letter Γ p)
    letter_in l i =
        let a = gather-answer (literal_at Γ ℓ) no_literal 0 Γ.signals i.place i.place_lt in
        let p = a.number in
        let is = a.is ∙ ap some i.is in (
          p,
          omega (arith, a.below),
          mentioned (letter Γ p) (truth ℓ.positive p) (truth ℓ.negative p) l is,
          letter-by (letter Γ p) (truth ℓ.positive p) (truth ℓ.negative p) l is,
        )

    signal_in : (x : Signal) → In x (signals_of sheet Γ) no_signal → (q : ℕ) × (q < Γ.signals)
        × (signal_at sheet Γ q ≡ x)
    signal_in x i =
        let h : i.place < Γ.signals =
        omega (arith, i.place_lt, length-tabulate (signal_at sheet Γ) Γ.signals) in
        (i.place, h, sym (get_d_tabulate (signal_at sheet Γ) Γ.signals i.place no_signal h) ∙ i.is)

    case_in : (k : Case) → In k (map (as_case sheet Γ) (labelled_of Γ)) no_case
        → (u : ℕ) × (u < Γ.events) × (as_case sheet Γ u ≡ k)
    case_in k i =
        let us = labelled_of Γ in
        let h : i.place < length us = omega (arith, i.place_lt, length-map us (as_case sheet Γ)) in (
          get_or us i.place 0,
          ((each-labelled Γ).each i.place h).event,
          sym (get_d_map (as_case sheet Γ) 0 no_case us i.place h) ∙ i.is,
        )

    pub label-complete : Complete (house_of sheet Γ) ls
    label-complete = record {
      has = λ l x k il ix ik e f.
          let a = letter_in l il in
          let b = signal_in x ix in
          let c = case_in k (rw (listed-section (map (as_case sheet Γ) (labelled_of Γ))) at ik) in
          rw (← ap (λ (k : Case). k.label) c.2)
          (includes-at a.0 b.0 c.0 a.1 a.2 b.1 c.1
          (sym a.3 ∙ e ∙ sym (ap (λ (x : Signal). x.letter) b.2))
          (ap (λ (x : Signal). x.event) b.2 ∙ f ∙ sym (ap (λ (k : Case). k.event) c.2)));
    }
