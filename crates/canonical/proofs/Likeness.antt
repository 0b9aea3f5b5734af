-- Sheets with equal horizons, event lists, signal lists, reactions, event labels and remaining upper bounds have forms
-- that contain the same: each says its ends by names and its label by letters, which stand in those lists. Assumes
-- nothing.
use mathlib.Core.Path.{◌≡◌, ◌∙◌, ap, ap₂}
use mathlib.Core.List.{List, map}
use Prim.Native.Nat.{ℕ, ◌<◌}
use native.Mathlib.Omega.{arith}
use lib.ListN.{length}
use Rattle.prelude.specs.Search.{unless}
use Rattle.prelude.specs.Gather.{gather}
use Rattle.prelude.proofs.Lists.{each_mono}
use Rattle.prelude.proofs.Gather.{gather-same}
use Rattle.prelude.proofs.Mapped.{map_same, tabulate-count, tabulate-value}
use Rattle.network.specs.Build.{name_of_lem, letter, event_label, no_constraint}
use Rattle.network.specs.Scenario.{truth}
use Rattle.network.specs.declared.Kind.TheVariants.{Max}
use Rattle.network.specs.declared.Label.{Label}
use Rattle.network.specs.declared.Constraint.{Constraint}
use Rattle.network.specs.declared.Network.{Network}
use Rattle.line.specs.Labelling.{is_none_lem}
use Rattle.layout.specs.Contents.{Signal, Case}
use Rattle.layout.specs.Layout.{text_of}
use Rattle.tighten.specs.Tightest.{remaining_of}
use Rattle.canonical.specs.Listed.{slow_by, slow_at, slow_of, labelled_at, labelled_of, section_of, before_labels}
use Rattle.canonical.specs.House.{literal_by, literal_at, literals_of, signal_at, as_rule, as_case, house_of}
use Rattle.canonical.specs.House.{house_text}
use Rattle.canonical.specs.Same.{Same}
use Rattle.canonical.proofs.Labelled.{IsLabelled, each-labelled}
use Rattle.canonical.proofs.Faithful.{Faithful}
use Rattle.canonical.proofs.Keeping.{Remains, each_remains}

module _ {sheet : List ℕ} {Γ : Network} {other : List ℕ} {Δ : Network} (s : Same sheet Γ other Δ) where
  name-same : (u : ℕ) → u < Γ.events → name_of_lem Γ sheet u ≡ name_of_lem Δ other u
  name-same u h = tabulate-value (name_of_lem Γ sheet) (name_of_lem Δ other) Γ.events Δ.events s.events u h

  letter-same : (p : ℕ) → p < Γ.signals → letter Γ p ≡ letter Δ p
  letter-same p h = ap (λ (x : Signal). x.letter)
      (tabulate-value (signal_at sheet Γ) (signal_at other Δ) Γ.signals Δ.signals s.signals p h)

  literal-same : (ℓ : Label) (p : ℕ) → p < Γ.signals → literal_at Γ ℓ p ≡ literal_at Δ ℓ p
  literal-same ℓ p h = ap (λ (b : ℕ). literal_by b (truth ℓ.positive p) (truth ℓ.negative p)) (letter-same p h)

  count_same : Γ.signals ≡ Δ.signals
  count_same = tabulate-count (signal_at sheet Γ) (signal_at other Δ) Γ.signals Δ.signals s.signals

  literals-same : (ℓ : Label) → literals_of Γ ℓ ≡ literals_of Δ ℓ
  literals-same ℓ =
      gather-same (literal_at Γ ℓ) (literal_at Δ ℓ) 0 Γ.signals (λ p l h. literal-same ℓ p (omega arith))
      ∙ ap (λ (k : ℕ). gather k (literal_at Δ ℓ)) count_same

  rule-same : (r : Constraint) → Remains Γ r → as_rule sheet Γ r ≡ as_rule other Δ r
  rule-same r w =
      let from = name-same r.from w.proper.from in
      let to = name-same r.to w.proper.to in
      let label = literals-same r.label in
      λ i. record { kind = Max; from = from i; to = to i; limit = r.bound; label = label i }

  slow_same : slow_of Γ ≡ slow_of Δ
  slow_same =
      gather-same (slow_at Γ) (slow_at Δ) 0 Γ.signals (λ p l h.
      ap₂ slow_by (letter-same p (omega arith)) (s.reactions p (omega arith)))
      ∙ ap (λ (k : ℕ). gather k (slow_at Δ)) count_same

  events-same : Γ.events ≡ Δ.events
  events-same = tabulate-count (name_of_lem Γ sheet) (name_of_lem Δ other) Γ.events Δ.events s.events

  labelled-same : labelled_of Γ ≡ labelled_of Δ
  labelled-same =
      gather-same (labelled_at Γ) (labelled_at Δ) 0 Γ.events (λ u l h.
      ap (λ (ℓ : Label). unless (is_none_lem ℓ) u) (s.labels u (omega arith)))
      ∙ ap (λ (n : ℕ). gather n (labelled_at Δ)) events-same

  case_same : (u : ℕ) → IsLabelled Γ u → as_case sheet Γ u ≡ as_case other Δ u
  case_same u w =
      let name = name-same u w.event in
      let label = literals-same (event_label Γ u) ∙ ap (literals_of Δ) (s.labels u w.event) in
      λ i. record { event = name i; label = label i }

  cases_same : map (as_case sheet Γ) (labelled_of Γ) ≡ map (as_case other Δ) (labelled_of Δ)
  cases_same =
      map_same (as_case sheet Γ) (as_case other Δ) 0 (labelled_of Γ) (each_mono case_same (each-labelled Γ))
      ∙ ap (map (as_case other Δ)) labelled-same

  pub house-same : Faithful sheet Γ → house_of sheet Γ ≡ house_of other Δ
  house-same t =
      let rules : map (as_rule sheet Γ) (remaining_of Γ) ≡ map (as_rule other Δ) (remaining_of Δ) =
      map_same (as_rule sheet Γ) (as_rule other Δ) no_constraint (remaining_of Γ) (each_mono rule-same (each_remains t))
      ∙ ap (map (as_rule other Δ)) s.remaining in
      let reactions = ap₂ before_labels (ap (length {A = ℕ}) labelled-same) slow_same in
      let cases = ap (section_of {A = Case}) cases_same in
      λ i. record {
        horizon = s.horizons i;
        names = s.events i;
        signals = s.signals i;
        rules = rules i;
        reactions = reactions i;
        cases = cases i;
      }

  pub text_same : Faithful sheet Γ → house_text sheet Γ ≡ house_text other Δ
  unfolding house_text
  text_same t = ap text_of (house-same t)
