-- The line of a case by itself: it is passed exactly where it is an event that has no line yet and a label of signals'
-- letters, each once; and the network that it adds to holds one line more. Assumes nothing.
use mathlib.Core.Path.{◌≡◌, refl, sym, ◌∙◌, ap}
use mathlib.Core.Bool.{true, not}
use mathlib.Core.Option.{Option, none, some}
use mathlib.Core.List.{List, [], ◌∷◌, ◌++◌}
use Prim.Native.Nat.{ℕ, ◌≤◌}
use borrow.Author.Tests.{eqb-true, not-true}
use lib.ListN.{length}
use Rattle.prelude.specs.Checks.{first_failing_lem}
use Rattle.prelude.proofs.Checks.{◌&◌, hold, none_fails}
use Rattle.prelude.specs.Lists.{In}
use Rattle.prelude.proofs.Lists.{all_of, each_in}
use Rattle.prelude.specs.Search.{answers}
use Rattle.prelude.proofs.Tests.{clash, and-true, and_both, false_of_not-true}
use Rattle.text.specs.Lines.{field}
use Rattle.network.specs.Limits as L
use Rattle.network.specs.declared.Network.{Network}
use Rattle.names.specs.Names.{is_name_lem, is_label_lem, label_of, letters_of}
use Rattle.names.specs.Defined.{all_defined_lem}
use Rattle.line.specs.Tests.{event_of, has_label, placed_tests, label_tests}
use Rattle.line.specs.Sections.{with_line}
use Rattle.line.specs.declared.Section.TheVariants.{Cases}
use Rattle.layout.specs.Contents.{Signal, Rule, Reaction, Case, case_events}
use Rattle.layout.specs.Layout.{label_text}
use Rattle.layout.proofs.Labels.{is-label, is_label-label_text}
use Rattle.layout.proofs.Kept.{NewCase}
use Rattle.layout.proofs.Extends.{contents_of}
use Rattle.layout.proofs.Stands.{Stands}
use Rattle.layout.proofs.Behind.{case_added}
use Rattle.layout.proofs.Finds.{event_in, event-found, event-named, event-answers}
use Rattle.layout.proofs.LabelField.{label-keeps, label-letters, label-defined, label_unlike, label-mask}

-- the fields of a case
abbrev pub cells : Case → List (List ℕ)
cells k = k.event ∷ label_text k.label ∷ []

module _ {sheet : List ℕ} {h : ℕ} {ns : List (List ℕ)} {xs : List Signal} {rs : List Rule}
    {o : Option (List Reaction)} {Γ : Network} {ks : List Case}
    (c : Stands sheet Γ (contents_of h ns xs rs o (some ks))) where
  -- whether the event of that name has a line
  line_in : (f : List ℕ) → has_label Γ (event_of sheet Γ f) ≡ true → In f ns [] → In f (case_events ks) []
  line_in f e i =
      let w = event-found c.holds f i in
      rw (event-named c.holds f w.0 w.1).name at (c.listed w.0 (rw w.1 at e))

  line_marks : (f : List ℕ) → In f ns [] → In f (case_events ks) [] → has_label Γ (event_of sheet Γ f) ≡ true
  line_marks f i j =
      let w = event-found c.holds f i in
      rw w.1 (c.marks w.0 (rw (event-named c.holds f w.0 w.1).name j))

  pub case_read : (fs : List (List ℕ)) → first_failing_lem (label_tests sheet Γ fs) ≡ none
      → (k : Case) × (fs ≡ cells k) × NewCase ns xs ks k
  unfolding placed_tests label_tests
  case_read fs e =
      let t = hold (label_tests sheet Γ fs) e in
      let name = field 0 fs in
      let label = field 1 fs in
      let is_taken = has_label Γ (event_of sheet Γ name) in
      let isKnown = answers (event_of sheet Γ name) in
      let areDefined = all_defined_lem Γ.signals Γ.letters (letters_of (label_of label)) in
      let p = and-true (is_name_lem name) (is_label_lem label) t.1.0 in
      let d = and-true isKnown areDefined t.1.1.1.0 in
      let i = event_in c.holds name d.0 in (
        record { event = name; label = label_of label },
        all_of [] 2 fs (eqb-true (length fs) 2 t.0)
            ∙ ap (λ (f : List ℕ). name ∷ f ∷ []) (sym (is-label label p.1).text),
        record {
          keeps = record { event = i; label = label-keeps c (label_of label) d.1 t.1.1.1.1.0 };
          new = λ w. clash is_taken (line_marks name i w) (not-true is_taken t.1.1.0);
        },
      )

  module _ (k : Case) (m : NewCase ns xs ks k) where
    pub name-is : is_name_lem k.event ≡ true
    name-is = each_in (λ n. is_name_lem n ≡ true) c.names.each m.keeps.event

    pub case_passes : first_failing_lem (label_tests sheet Γ (cells k)) ≡ none
    unfolding placed_tests label_tests
    case_passes =
        let name = k.event in
        let label = label_text k.label in
        let keeps = m.keeps.label in
        let free = false_of_not-true (has_label Γ (event_of sheet Γ name))
        (λ e. m.new (line_in name e m.keeps.event)) in
        none_fails (label_tests sheet Γ (cells k))
        (refl
        & and_both (is_name_lem name) (is_label_lem label) name-is
        (is_label-label_text k.label (label-letters c k.label keeps))
        & ap not free
        & and_both (answers (event_of sheet Γ name))
        (all_defined_lem Γ.signals Γ.letters (letters_of (label_of label)))
        (event-answers c.holds name m.keeps.event) (label-defined c k.label keeps)
        & label_unlike c k.label keeps
        & tt)

    pub case_adds : length ns ≤ L.events → (at : ℕ)
        → Stands sheet (with_line sheet Cases Γ at (cells k)) (contents_of h ns xs rs o (some (ks ++ k ∷ [])))
    case_adds few-events at =
        let w = event-found c.holds k.event m.keeps.event in
        rw (w.1, label-mask c k.label m.keeps.label)
        (case_added c k w.0 m few-events (event-named c.holds k.event w.0 w.1))
