-- A line of the cases is understood: it is passed exactly where it is that of a case (CaseLine), and the last one
-- where, beside that, the labels of the whole sheet lack nothing. Assumes nothing.
use mathlib.Core.Path.{◌≡◌, ◌∙◌}
use mathlib.Core.Option.{Option, none, some}
use mathlib.Core.List.{List, [], ◌∷◌, ◌++◌}
use Prim.Native.Nat.{ℕ, zero, suc, ◌≤◌}
use lib.ListN.{length}
use Rattle.prelude.specs.Checks.{first_failing_lem}
use Rattle.prelude.proofs.Checks.{◌&◌}
use Rattle.network.specs.Limits as L
use Rattle.network.specs.declared.Network.{Network}
use Rattle.line.specs.Tests.{label_tests}
use Rattle.line.specs.Sections.{with_line, tests_of}
use Rattle.line.specs.Labelling.{whole_tests}
use Rattle.line.specs.declared.Section.TheVariants.{Cases}
use Rattle.line.proofs.Checks.{fails_behind, holds-before, holds-behind}
use Rattle.layout.specs.Contents.{Signal, Rule, Reaction, Case, Contents}
use Rattle.layout.specs.Labelled.{Labelled}
use Rattle.layout.specs.Layout.{label_text}
use Rattle.layout.proofs.Plain.{plain-name}
use Rattle.layout.proofs.Labels.{plain-label_text}
use Rattle.layout.proofs.Kept.{KeptCases, NewCase, may_case}
use Rattle.layout.proofs.Extends.{contents_of}
use Rattle.layout.proofs.Stands.{Stands}
use Rattle.layout.proofs.LabelField.{label-letters}
use Rattle.layout.proofs.Labelled.{whole-labelled_iff}
use Rattle.layout.proofs.CaseLine.{cells, case_read, name-is, case_passes, case_adds}
use Rattle.layout.proofs.Entries.{Understood}

-- what is asked of all labels where so many lines are to come: nothing before the last is read
abbrev pub Due : ℕ → Contents → Type 0
Due zero c = Labelled c
Due (suc m) c = Unit {0}

module _ (sheet : List ℕ) (h : ℕ) (ns : List (List ℕ)) (xs : List Signal) (rs : List Rule)
    (o : Option (List Reaction)) (few-events : length ns ≤ L.events) (few : length xs ≤ L.signals) where
  abbrev pub with_cases : List Case → Contents
  with_cases ks = contents_of h ns xs rs o (some ks)

  -- so many lines are to come
  pub record HeldCases (m : ℕ) (Γ : Network) (ks : List Case) : Type 0 where
    pub stands : Stands sheet Γ (with_cases ks)
    pub due : Due m (with_cases ks)

  pub record AllCases (ks : List Case) : Type 0 where
    pub kept : KeptCases ns xs ks
    pub labelled : Labelled (with_cases ks)

  pub record MayCase (m : ℕ) (ks : List Case) (k : Case) : Type 0 where
    pub new : NewCase ns xs ks k
    pub due : Due m (with_cases (ks ++ k ∷ []))

  module _ {Γ : Network} {ks : List Case} (c : Stands sheet Γ (with_cases ks)) where
    -- with so many more behind it
    reads : (m : ℕ) (fs : List (List ℕ)) → first_failing_lem (tests_of sheet Cases m Γ fs) ≡ none
        → (k : Case) × (fs ≡ cells k) × MayCase m ks k
    reads zero fs e =
        let ts = label_tests sheet Γ fs in
        let us = whole_tests (with_line sheet Cases Γ 0 fs) in
        let r = case_read c fs (holds-before ts us e) in
        let whole : first_failing_lem (whole_tests (with_line sheet Cases Γ 0 (cells r.0))) ≡ none =
        rw r.1 at (holds-behind ts us e) in
        let held = case_adds c r.0 r.2 few-events 0 in
        (r.0, r.1, record { new = r.2; due = (whole-labelled_iff held few).0 whole })
    reads (suc m) fs e =
        let r = case_read c fs e in
        (r.0, r.1, record { new = r.2; due = tt })

    passes : (m : ℕ) (k : Case) → MayCase m ks k
        → first_failing_lem (tests_of sheet Cases m Γ (cells k)) ≡ none
    passes zero k w =
        let fs = cells k in
        fails_behind (label_tests sheet Γ fs) (whole_tests (with_line sheet Cases Γ 0 fs)) (case_passes c k w.new)
        ∙ (whole-labelled_iff (case_adds c k w.new few-events 0) few).1 w.due
    passes (suc m) k w = case_passes c k w.new

  may : (ks js : List Case) (k : Case) → AllCases (ks ++ k ∷ js) → MayCase (length js) ks k
  may ks [] k w = record { new = may_case ns xs ks [] k w.kept; due = w.labelled }
  may ks (j ∷ js) k w = record { new = may_case ns xs ks (j ∷ js) k w.kept; due = tt }

  pub cases_understood : Understood sheet Cases (λ k. k.event) (λ k. label_text k.label ∷ []) HeldCases AllCases
      MayCase
  cases_understood = record {
    may = may;
    reads = λ m c fs e. reads c.stands m fs e;
    passes = λ m c k w. passes c.stands m k w;
    plain = λ c k w.
        plain-name k.event (name-is c.stands k w.new)
        & plain-label_text k.label (label-letters c.stands k.label w.new.keeps.label)
        & tt;
    adds = λ n m c k w few at rest e. record { stands = case_adds c.stands k w.new few-events at; due = w.due };
  }
