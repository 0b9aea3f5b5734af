-- The form is a sheet, and what is read from it is what was written: its rules are the upper bounds that remain,
-- since a name tells its event, and the letters of a label tell the label; each signal reacts as before, and each event
-- has the same label. Assumes nothing.
use mathlib.Core.Path.{◌≡◌, sym, ◌∙◌, ap}
use mathlib.Core.Logic.{inl, inr}
use mathlib.Core.Bool.{false}
use mathlib.Core.List.{List, [], map}
use Prim.Native.Nat.{ℕ, ◌^◌, ◌<◌}
use native.Mathlib.Omega.{arith}
use lib.ListN.{length, get_or, length-map}
use Rattle.prelude.specs.Lists.{In}
use Rattle.prelude.proofs.Bounded.{length-tabulate, get_d_tabulate}
use Rattle.prelude.proofs.Lists.{tabulate-is}
use Rattle.prelude.proofs.Mapped.{get_d_map}
use Rattle.prelude.proofs.Tests.{either, clash, lt_or_ge}
use Rattle.network.specs.Build.{no_label, name_of_lem, observation, event_label, constraint, no_constraint}
use Rattle.network.specs.WellFormed.{Lettered}
use Rattle.network.specs.declared.Label.{Label}
use Rattle.network.specs.declared.Constraint.{Constraint}
use Rattle.network.specs.declared.Network.{Network}
use Rattle.names.specs.Defined.{mask_of}
use Rattle.names.proofs.Apart.{Apart}
use Rattle.line.specs.Labelling.{is_none_lem}
use Rattle.line.proofs.Labelling.{is_none_iff}
use Rattle.layout.specs.Contents.{Case, no_signal, no_rule, no_case, signal_letters, case_events}
use Rattle.layout.specs.Contains.{Bears, Means, Contains}
use Rattle.tighten.specs.Upper.{upper_of, uppers_of}
use Rattle.tighten.specs.Tightest.{remaining_of}
use Rattle.tighten.proofs.Rules.{upper_of-max}
use Rattle.tighten.proofs.Agree.{Agree}
use Rattle.canonical.specs.Listed.{labelled_of}
use Rattle.canonical.specs.House.{literals_of, names_of, signal_at, signals_of, as_rule, as_case, house_of}
use Rattle.canonical.proofs.Signs.{mask-literals}
use Rattle.canonical.proofs.Listed.{listed-section}
use Rattle.canonical.proofs.Slow.{reaction-back}
use Rattle.canonical.proofs.Labelled.{each-labelled, labelled_in}
use Rattle.canonical.proofs.Faithful.{Faithful, letters-held, event-tells, event-apart, none-behind}
use Rattle.canonical.proofs.Keeping.{Remains, each_remains}
use Rattle.canonical.proofs.Cases.{cases, case_event}

module _ {sheet : List ℕ} {Γ : Network} (t : Faithful sheet Γ) where
  -- an event is told by its name
  place-back : (u v : ℕ) → u < Γ.events → Bears (names_of sheet Γ) v (name_of_lem Γ sheet u) → v ≡ u
  place-back u v h b = event-tells t v u h b.name

  -- a label by its letters
  label-back : (ℓ : Label) → Apart ℓ → Lettered Γ ℓ
      → mask_of (length (signals_of sheet Γ)) (signal_letters (signals_of sheet Γ)) (literals_of Γ ℓ) ≡ ℓ
  label-back ℓ apart w =
      let xs = signals_of sheet Γ in
      let s = letters-held t in
      let k = ap (λ (n : ℕ). 2 ^ n) s.count in
      mask-literals Γ ℓ (length xs) (signal_letters xs) s apart (omega (arith, w.positive)) (omega (arith, w.negative))

  module _ {form : List ℕ} {Δ : Network} (h : Contains form Δ (house_of sheet Γ)) where
    -- a rule of the form is the upper bound that remains
    means-back : (r c : Constraint) → Remains Γ r → Means (names_of sheet Γ) (signals_of sheet Γ) c (as_rule sheet Γ r)
        → c ≡ r
    means-back r c w m =
        let from = place-back r.from c.from w.proper.from m.from in
        let to = place-back r.to c.to w.proper.to m.to in
        let label = m.label ∙ label-back r.label w.apart w.proper.label in
        λ i. record {
          kind = (m.kind ∙ sym w.kind) i;
          from = from i;
          to = to i;
          bound = m.bound i;
          label = label i;
        }

    upper-back : (i : ℕ) → i < length (remaining_of Γ) → constraint Δ i ≡ get_or (remaining_of Γ) i no_constraint
    upper-back i l =
        let inside : i < length (map (as_rule sheet Γ) (remaining_of Γ)) =
        omega (arith, length-map (remaining_of Γ) (as_rule sheet Γ)) in
        let r = get_or (remaining_of Γ) i no_constraint in
        means-back r (constraint Δ i) ((each_remains t).each i l)
        (rw (get_d_map (as_rule sheet Γ) no_constraint no_rule (remaining_of Γ) i l) at (h.means i inside))

    pub uppers-back : uppers_of Δ ≡ remaining_of Γ
    uppers-back =
        let count : Δ.rules ≡ length (remaining_of Γ) = h.rules ∙ length-map (remaining_of Γ) (as_rule sheet Γ) in
        tabulate-is (λ i. upper_of (constraint Δ i)) no_constraint Δ.rules (remaining_of Γ) count (λ i l.
        let back = upper-back i l in
        upper_of-max (constraint Δ i) (ap (λ (c : Constraint). c.kind) back ∙ ((each_remains t).each i l).kind) ∙ back)

    -- an event that is listed has its label again
    listed_back : (u : ℕ) → u < Γ.events → is_none_lem (event_label Γ u) ≡ false → event_label Δ u ≡ event_label Γ u
    listed_back u l n =
        let i = labelled_in Γ u l n in
        let is = get_d_map (as_case sheet Γ) 0 no_case (labelled_of Γ) i.place i.place_lt
        ∙ ap (as_case sheet Γ) i.is in
        let label = (rw (listed-section (cases t)) at h.labelled) u i.place
        (omega (arith, i.place_lt, length-map (labelled_of Γ) (as_case sheet Γ)))
        (get_d_tabulate (name_of_lem Γ sheet) Γ.events u [] l ∙ sym (ap (λ (k : Case). k.event) is)) in
        label
        ∙ ap (λ (k : Case). mask_of (length (signals_of sheet Γ)) (signal_letters (signals_of sheet Γ)) k.label) is
        ∙ label-back (event_label Γ u) (event-apart t u) (t.formed.lettered u)

    -- and one with the label `-` is not listed
    unlisted : (u : ℕ) → event_label Γ u ≡ no_label → In (get_or (names_of sheet Γ) u []) (case_events (cases t)) [] → ⊥
    unlisted u e i =
        let us = labelled_of Γ in
        let at : i.place < length us =
        omega (arith, i.place_lt, length-map (cases t) (λ k. k.event), length-map us (as_case sheet Γ)) in
        let v = get_or us i.place 0 in
        let w = (each-labelled Γ).each i.place at in
        let same : u ≡ v = event-tells t u v w.event (sym i.is ∙ case_event t i.place at) in
        clash (is_none_lem (event_label Γ v)) ((is_none_iff (event_label Γ v)).1 (ap (event_label Γ) (sym same) ∙ e))
        w.labelled

    none-back : (u : ℕ) → event_label Γ u ≡ no_label → event_label Δ u ≡ event_label Γ u
    none-back u e = (rw (listed-section (cases t)) at h.unlabelled) u (unlisted u e) ∙ sym e

    labels-back : (u : ℕ) → event_label Δ u ≡ event_label Γ u
    labels-back u =
        elim (either (is_none_lem (event_label Γ u))) [
          | inl e ↦ none-back u ((is_none_iff (event_label Γ u)).0 e)
          | inr n ↦ elim (lt_or_ge u Γ.events) [
            | inl l ↦ listed_back u l n
            | inr l ↦ none-back u (none-behind t u l)
          ]
        ]

    pub agrees_back : Agree Γ Δ
    agrees_back = record {
      horizon = sym h.horizon;
      events = sym (h.events ∙ length-tabulate (name_of_lem Γ sheet) Γ.events);
      signals = sym (h.signals ∙ length-tabulate (signal_at sheet Γ) Γ.signals);
      observations = λ p l.
          let all = length-tabulate (signal_at sheet Γ) Γ.signals in
          sym (place-back (observation Γ p) (observation Δ p) (t.formed.observed p l)
          (rw (get_d_tabulate (signal_at sheet Γ) Γ.signals p no_signal l) at (h.observed p (omega arith))));
      reactions = λ p l. sym (reaction-back sheet (letters-held t) h p l);
      labels = λ u. sym (labels-back u);
    }
