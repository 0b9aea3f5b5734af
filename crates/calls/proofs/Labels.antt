-- A label holds in a case exactly where each of its letters has there the truth that its sign asks: so of a rule, and
-- of an event by its line among the cases. Assumes nothing.
use mathlib.Core.Path.{◌≡◌, refl, sym, ◌∙◌, ap}
use mathlib.Core.Logic.{◌↔◌, inl, inr}
use mathlib.Core.Bool.{true}
use mathlib.Core.List.{List, []}
use Prim.Native.Nat.{ℕ, ◌<◌}
use native.Mathlib.Omega.{arith}
use lib.ListN.{length, get_or, length-map, get_or-map}
use Rattle.prelude.specs.Bytes.{same}
use Rattle.prelude.specs.Lists.{In, Each}
use Rattle.prelude.proofs.Bytes.{same_true, same_of_eq}
use Rattle.prelude.proofs.Lists.{test_of_distinct}
use Rattle.network.specs.Build.{constraint, event_label}
use Rattle.network.specs.Scenario.{satisfies}
use Rattle.network.specs.Happens.{happens}
use Rattle.network.specs.declared.Label.{Label}
use Rattle.network.specs.declared.Network.{Network}
use Rattle.network.proofs.Labels.{happens-unlabelled}
use Rattle.names.specs.Names.{Literal, letters_of}
use Rattle.names.specs.Defined.{mask_of}
use Rattle.names.proofs.Satisfies.{Agrees, satisfies-label}
use Rattle.layout.specs.Contents.{Case, Contents, no_signal, no_rule, no_case, no_literal, signal_letters}
use Rattle.layout.specs.Contents.{listed_cases}
use Rattle.layout.specs.Keeps.{KeepsLabel, Keeps}
use Rattle.layout.specs.Contains.{Contains}
use Rattle.layout.proofs.Finds.{letter-place, letter-found, mask_is}
use Rattle.layout.proofs.KindWords.{defined-passes}
use Rattle.layout.proofs.Keyed.{keyed_or_not}
use Rattle.calls.specs.Labels.{LiteralHolds, LabelHolds}

module _ {sheet : List ℕ} {Γ : Network} {c : Contents} (h : Contains sheet Γ c) (k : Keeps c) (s : ℕ) where
  module _ (ls : List Literal) (m : KeepsLabel (signal_letters c.signals) ls) where
    abbrev Agree : Type 0
    Agree = Agrees Γ.signals Γ.letters no_literal s ls

    -- the signal with the letter is the one that is found by it
    holds_of_agree : Agree → LabelHolds c.signals s ls
    holds_of_agree g = record {
      each = λ i l.
          let x = get_or ls i no_literal in
          let known : In x.letter (signal_letters c.signals) 0 = rw (get_or-map (λ y. y.letter) ls i no_literal) at
          (m.known.each i (omega (arith, length-map ls (λ y. y.letter)))) in
          let p = letter-found h x.letter known in
          let at = letter-place h x.letter p.0 p.1 in
          record {
            signal = p.0;
            defined = at.0;
            letter = sym (h.lettered p.0 at.0) ∙ at.1;
            asked = g.each x (record { place = i; place_lt = l; is = refl }) p.0 p.1;
          };
    }

    -- and no other signal has it
    agree_of_holds : LabelHolds c.signals s ls → Agree
    agree_of_holds e = record {
      each = λ l i p found.
          let w : LiteralHolds c.signals s l = rw i.is at (e.each i.place i.place_lt) in
          let at = letter-place h l.letter p found in
          let one : w.signal ≡ p =
          k.letters_once.once w.signal p (omega (arith, w.defined, length-map c.signals (λ x. x.letter)))
          (omega (arith, at.0, length-map c.signals (λ x. x.letter)))
          (get_or-map (λ x. x.letter) c.signals w.signal no_signal
          ∙ w.letter
          ∙ sym at.1
          ∙ h.lettered p at.0
          ∙ sym (get_or-map (λ x. x.letter) c.signals p no_signal)) in
          rw one at w.asked;
    }

    mask-holds : (ℓ : Label) → ℓ ≡ mask_of (length c.signals) (signal_letters c.signals) ls
        → (satisfies s ℓ ≡ true) ↔ LabelHolds c.signals s ls
    mask-holds ℓ e =
        let w = satisfies-label Γ.signals Γ.letters no_literal s ls (omega (arith, h.signals, k.few_signals))
        (defined-passes h (letters_of ls) m.known) (test_of_distinct (letters_of ls) m.once) in
        let same = ap (satisfies s) (e ∙ sym (mask_is h ls)) in (
          λ t. holds_of_agree (w.0 (sym same ∙ t)),
          λ a. same ∙ w.1 (agree_of_holds a),
        )

  pub rule-holds : (i : ℕ) → i < Γ.rules
      → (satisfies s (constraint Γ i).label ≡ true) ↔ LabelHolds c.signals s (get_or c.rules i no_rule).label
  rule-holds i l =
      let at : i < length c.rules = omega (arith, h.rules) in
      mask-holds (get_or c.rules i no_rule).label (k.rules.each i at).label (constraint Γ i).label (h.means i at).label

  -- an event has one line at most, and without one it happens in every case
  module _ (u : ℕ) where
    abbrev ks : List Case
    ks = listed_cases c

    line-holds : (i : ℕ) → i < length ks → (get_or ks i no_case).event ≡ get_or c.names u []
        → (satisfies s (event_label Γ u) ≡ true) ↔ LabelHolds c.signals s (get_or ks i no_case).label
    line-holds i l e =
        mask-holds (get_or ks i no_case).label (k.cases.each i l).label (event_label Γ u) (h.labelled u i l (sym e))

    pub event_happens
        : (happens Γ s u ≡ true)
        ↔ Each (λ x. x.event ≡ get_or c.names u [] → LabelHolds c.signals s x.label) ks no_case
    unfolding happens
    event_happens = (
      λ t. record { each = λ i l e. (line-holds i l e).0 t },
      λ f. elim (keyed_or_not same same_true same_of_eq (λ x. x.event) no_case [] (get_or c.names u []) ks) [
        | inl w ↦ (line-holds w.place w.place_lt (sym w.is)).1 (f.each w.place w.place_lt (sym w.is))
        | inr none ↦ happens-unlabelled Γ s u (h.unlabelled u none)
      ],
    )
