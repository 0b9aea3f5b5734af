-- The labels of a network lack nothing exactly where those of the contents that it holds lack nothing. So the tests of
-- all labels fail exactly where the papers give 20 or 21, told of the contents alone (`whole-labelled_iff`;
-- of 20 alone `start_iff`, of 21 alone `events-complete_iff` and `rules-complete_iff`). Assumes nothing.
use mathlib.Core.Path.{◌≡◌, refl, sym, ◌∙◌, ap}
use mathlib.Core.Logic.{inl, inr, ◌↔◌}
use mathlib.Core.Bool.{Bool, true, false}
use mathlib.Core.Option.{none}
use mathlib.Core.List.{List, [], ◌∷◌}
use Prim.Native.Nat.{ℕ, ◌≤◌, ◌<◌}
use native.Mathlib.Omega.{arith}
use native.Mathlib.Nat.{one-le-pow}
use lib.ListN.{length, get_or}
use Rattle.prelude.specs.Checks.{first_failing_lem}
use Rattle.prelude.specs.Lists.{Each}
use Rattle.prelude.proofs.Lists.{each_in}
use Rattle.prelude.proofs.Parts.{in_first}
use Rattle.network.specs.Limits as L
use Rattle.network.specs.Build.{no_label, event_label, constraint}
use Rattle.network.specs.Scenario.{truth}
use Rattle.network.specs.Complete as N
use Rattle.network.specs.WellFormed.{Lettered}
use Rattle.network.specs.declared.Label.{Label}
use Rattle.network.specs.declared.Network.{Network}
use Rattle.network.proofs.Labels.{truth-none, mentions-none}
use Rattle.names.specs.Names.{Literal}
use Rattle.line.specs.Labelling.{whole_tests}
use Rattle.line.proofs.Labelling.{lettered-whole_iff}
use Rattle.layout.specs.Contents.{Contents, no_rule, no_case, listed_cases}
use Rattle.layout.specs.Labelled.{Complete, Labelled}
use Rattle.layout.proofs.Finds.{letter-found, mask_is}
use Rattle.layout.proofs.Stands.{Stands}
use Rattle.layout.proofs.Asked.{mask-lettered, in_truth}
use Rattle.layout.proofs.Includes.{mask, sum, Keeping}
use Rattle.layout.proofs.Complete.{at-line, by-line, complete_of, of_complete}

module _ {sheet : List ℕ} {Γ : Network} {c : Contents} (s : Stands sheet Γ c)
    (few : length c.signals ≤ L.signals) where
  -- no label but the empty one asks for nothing
  none_of : (ls : List Literal) → Keeping s few ls → mask s few ls ≡ no_label → ls ≡ []
  none_of [] a e = refl
  none_of (l ∷ ls) a e =
      let p = letter-found s.holds l.letter (a.known.each 0 (omega arith)) in
      let t = in_truth s few (l ∷ ls) a l p.0 in_first p.1 in
      absurd (by_sign l.value p.0 t)
    where
      by_sign : (v : Bool) (p : ℕ) → truth (sum s few v (l ∷ ls)) p ≡ true → ⊥
      by_sign true p t = truth-none p (rw (ap (λ (ℓ : Label). ℓ.positive) e) at t)
      by_sign false p t = truth-none p (rw (ap (λ (ℓ : Label). ℓ.negative) e) at t)

  complete-none : N.Complete Γ no_label
  complete-none = record { includes = λ p l e. absurd (mentions-none p e) }

  rule-is : (i : ℕ) → i < length c.rules → (constraint Γ i).label ≡ mask s few (get_or c.rules i no_rule).label
  rule-is i l = (s.holds.means i l).label ∙ sym (mask_is s.holds (get_or c.rules i no_rule).label)

  -- by the network's labels
  complete-at : (ℓ κ : Label) → ℓ ≡ κ → N.Complete Γ ℓ → N.Complete Γ κ
  complete-at ℓ κ e w = rw e at w

  lettered-at : (ℓ κ : Label) → ℓ ≡ κ → Lettered Γ ℓ → Lettered Γ κ
  lettered-at ℓ κ e w = rw e at w

  -- 20
  pub start_iff : (event_label Γ 0 ≡ no_label)
      ↔ Each (λ k. k.event ≡ get_or c.names 0 [] → k.label ≡ []) (listed_cases c) no_case
  start_iff = (
    λ e. record {
      each = λ i l n.
          let y = at-line s few 0 i l (sym n) in
          none_of (get_or (listed_cases c) i no_case).label y.keeps (sym y.is ∙ e);
    },
    λ w.
        elim (by-line s few 0) [
          | inl k ↦
              let y = k.1 in
              let none = each_in (λ j. j.event ≡ get_or c.names 0 [] → j.label ≡ []) w y.stands (sym y.its) in
              y.is ∙ ap (mask s few) none
          | inr e ↦ e
        ],
  )

  -- 21, of events' labels and rules'
  pub events-complete_iff : ((u : ℕ) → u < Γ.events → N.Complete Γ (event_label Γ u))
      ↔ Each (λ k. Complete c k.label) (listed_cases c) no_case
  events-complete_iff = (
    λ w. record {
      each = λ i l.
          let u = (s.cases.each.each i l).event in
          let y = at-line s few u.place i l u.is in
          let k = get_or (listed_cases c) i no_case in
          of_complete s few k.label y.keeps
          (complete-at (event_label Γ u.place) (mask s few k.label) y.is
          (w u.place (omega (arith, u.place_lt, s.holds.events))));
    },
    λ w u l.
        elim (by-line s few u) [
          | inl k ↦
              let y = k.1 in
              complete-at (mask s few k.0.label) (event_label Γ u) (sym y.is)
              (complete_of s few k.0.label y.keeps (each_in (λ j. Complete c j.label) w y.stands))
          | inr e ↦ complete-at no_label (event_label Γ u) (sym e) complete-none
        ],
  )

  pub rules-complete_iff : ((i : ℕ) → i < Γ.rules → N.Complete Γ (constraint Γ i).label)
      ↔ Each (λ r. Complete c r.label) c.rules no_rule
  rules-complete_iff = (
    λ w. record {
      each = λ i l.
          let r = get_or c.rules i no_rule in
          of_complete s few r.label (s.rules.each i l).label
          (complete-at (constraint Γ i).label (mask s few r.label) (rule-is i l)
          (w i (omega (arith, s.holds.rules))));
    },
    λ w i l.
        let h : i < length c.rules = omega (arith, s.holds.rules) in
        let r = get_or c.rules i no_rule in
        complete-at (mask s few r.label) (constraint Γ i).label (sym (rule-is i h))
        (complete_of s few r.label (s.rules.each i h).label (w.each i h)),
  )

  pub well_labelled_iff : N.WellLabelled Γ ↔ Labelled c
  well_labelled_iff = (
    λ w. record {
      start = start_iff.0 w.start;
      events = events-complete_iff.0 w.complete.event;
      rules = rules-complete_iff.0 w.complete.rule;
    },
    λ w. record {
      start = start_iff.1 w.start;
      complete = record { event = events-complete_iff.1 w.events; rule = rules-complete_iff.1 w.rules };
    },
  )

  labels-lettered : (u : ℕ) → Lettered Γ (event_label Γ u)
  labels-lettered u =
      elim (by-line s few u) [
        | inl k ↦
            lettered-at (mask s few k.0.label) (event_label Γ u) (sym k.1.is)
            (mask-lettered s few k.0.label k.1.keeps)
        | inr e ↦
            let h = one-le-pow Γ.signals 2 (omega arith) in
            lettered-at no_label (event_label Γ u) (sym e) (record { positive = h; negative = h })
      ]

  -- the tests hold exactly where the contents' labels lack nothing
  pub whole-labelled_iff : (first_failing_lem (whole_tests Γ) ≡ none) ↔ Labelled c
  whole-labelled_iff =
      let w = lettered-whole_iff Γ (omega (arith, few, s.holds.signals)) labels-lettered in
      (λ e. well_labelled_iff.0 (w.0 e), λ l. w.1 (well_labelled_iff.1 l))
