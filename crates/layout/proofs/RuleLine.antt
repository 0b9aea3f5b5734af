-- The line of a rule that keeps the layout's rules: the constraint that it adds says what the rule says, and the line
-- is passed. Assumes nothing.
use mathlib.Core.Path.{◌≡◌, refl, ◌∙◌}
use mathlib.Core.Bool.{true, ◌&&◌}
use mathlib.Core.Option.{none, get_or}
use mathlib.Core.List.{List, [], ◌∷◌}
use Prim.Native.Nat.{ℕ}
use borrow.Author.Tests.{le-leb}
use Rattle.prelude.specs.Search.{answers}
use Rattle.prelude.specs.Checks.{first_failing_lem}
use Rattle.prelude.specs.Lists.{In}
use Rattle.prelude.proofs.Checks.{◌&◌, none_fails}
use Rattle.prelude.proofs.Lists.{each_in}
use Rattle.prelude.proofs.Tests.{and_both}
use Rattle.text.specs.Number.{magnitude}
use Rattle.text.proofs.Written.{Plain}
use Rattle.network.specs.Limits as L
use Rattle.network.specs.declared.Network.{Network}
use Rattle.names.specs.Names.{is_name_lem, is_label_lem, label_of, letters_of}
use Rattle.names.specs.Defined.{all_defined_lem}
use Rattle.line.specs.Tests.{event_of, limit_tests, ends_tests, rule_tests}
use Rattle.line.specs.Sections.{rule_of}
use Rattle.line.proofs.RuleRefusals.{rule-ends}
use Rattle.layout.specs.Contents.{Rule, Contents, signal_letters}
use Rattle.layout.specs.Keeps.{KeepsRule}
use Rattle.layout.specs.Layout.{kind_text, signed_text, label_text, rule_fields}
use Rattle.layout.specs.Contains.{Bears, Means}
use Rattle.layout.proofs.Plain.{plain-name}
use Rattle.layout.proofs.Numbers as N
use Rattle.layout.proofs.Labels.{is_label-label_text, plain-label_text}
use Rattle.layout.proofs.Finds.{event-answers, event-found, event-named}
use Rattle.layout.proofs.Stands.{Stands}
use Rattle.layout.proofs.KindWords.{kind-is, kind-passes, plain-kind}
use Rattle.layout.proofs.LabelField.{label-letters, label-defined, label_unlike, label-mask}

module _ {sheet : List ℕ} {Γ : Network} {c : Contents} (s : Stands sheet Γ c) (x : Rule)
    (m : KeepsRule c.names (signal_letters c.signals) x) where
  bears : (f : List ℕ) → In f c.names [] → Bears c.names (get_or (event_of sheet Γ f) 0) f
  bears f w = let u = event-found s.holds f w in rw u.1 (event-named s.holds f u.0 u.1)

  pub rule-means : Means c.names c.signals (rule_of sheet Γ (kind_text x.kind ∷ rule_fields x)) x
  rule-means = record {
    kind = kind-is x.kind;
    from = bears x.from m.from;
    to = bears x.to m.to;
    bound = N.value_of_signed_text x.limit;
    label = label-mask s x.label m.label;
  }

  from_is : is_name_lem x.from ≡ true
  from_is = each_in (λ n. is_name_lem n ≡ true) s.names.each m.from

  to_is : is_name_lem x.to ≡ true
  to_is = each_in (λ n. is_name_lem n ≡ true) s.names.each m.to

  pub rule-passes : first_failing_lem (rule_tests sheet Γ (kind_text x.kind ∷ rule_fields x)) ≡ none
  unfolding ends_tests
  rule-passes =
      let from = x.from in
      let to = x.to in
      let label = label_text x.label in
      let bs = letters_of (label_of label) in
      let areDefined = all_defined_lem Γ.signals Γ.letters in
      let isFrom = answers (event_of sheet Γ from) in
      let isTo = answers (event_of sheet Γ to) in
      let letters = label-letters s x.label m.label in
      let defined = label-defined s x.label m.label in
      let number = N.is_number_signed_text x.limit in
      let within = le-leb (magnitude (signed_text x.limit)) L.horizon (N.magnitude-signed_text x.limit m.limit) in
      rule-ends sheet Γ (kind_text x.kind ∷ rule_fields x) refl (kind-passes x.kind)
      (none_fails (limit_tests (signed_text x.limit)) (number & within & tt))
      ∙ none_fails (ends_tests sheet Γ from to label)
      (and_both (is_name_lem from) (is_name_lem to && is_label_lem label) from_is
      (and_both (is_name_lem to) (is_label_lem label) to_is (is_label-label_text x.label letters))
      & and_both isFrom (isTo && areDefined bs) (event-answers s.holds from m.from)
      (and_both isTo (areDefined bs) (event-answers s.holds to m.to) defined)
      & label_unlike s x.label m.label
      & tt)

  pub rule-plain : Plain (kind_text x.kind ∷ rule_fields x)
  rule-plain =
      plain-kind x.kind
      & plain-name x.from from_is
      & plain-name x.to to_is
      & N.plain-signed_text x.limit
      & plain-label_text x.label (label-letters s x.label m.label)
      & tt
