-- A line of the rules is understood: one that is passed is a kind, two events, a limit and a label of signals'
-- letters, each once; and a rule's line is passed (RuleLine). Assumes nothing.
use mathlib.Core.Path.{◌≡◌, ◌∙◌}
use mathlib.Core.Bool.{◌&&◌}
use mathlib.Core.Option.{none}
use mathlib.Core.List.{List, [], ◌∷◌}
use Prim.Native.Nat.{ℕ}
use borrow.Author.Tests.{eqb-true, leb-true}
use lib.ListN.{length}
use Rattle.prelude.specs.Search.{answers}
use Rattle.prelude.specs.Checks.{first_failing_lem}
use Rattle.prelude.proofs.Lists.{all_of, each_at}
use Rattle.prelude.proofs.Tests.{and-true}
use Rattle.text.specs.Lines.{field}
use Rattle.text.specs.Number.{magnitude, value_of}
use Rattle.network.specs.Limits as L
use Rattle.network.specs.declared.Network.{Network}
use Rattle.names.specs.Names.{is_name_lem, is_label_lem, label_of, letters_of}
use Rattle.names.specs.Defined.{all_defined_lem}
use Rattle.line.specs.Tests.{event_of, kind_tests, ends_tests, rule_tests}
use Rattle.line.specs.Sections.{rule_of}
use Rattle.line.specs.declared.Section.TheVariants.{Rules}
use Rattle.line.proofs.Checks.{all_hold}
use Rattle.layout.specs.Contents.{Signal, Rule, Contents, no_rule, signal_letters}
use Rattle.layout.specs.Keeps.{KeepsRule}
use Rattle.layout.specs.Layout.{kind_text, signed_text, label_text, rule_fields}
use Rattle.layout.proofs.Numbers as N
use Rattle.layout.proofs.Labels.{is-label}
use Rattle.layout.proofs.Finds.{event_in}
use Rattle.layout.proofs.Extends.{contents}
use Rattle.layout.proofs.Kept.{KeptRules}
use Rattle.layout.proofs.Stands.{Stands, rule-added}
use Rattle.layout.proofs.Entries.{Understood}
use Rattle.layout.proofs.KindWords.{kind-read}
use Rattle.layout.proofs.LabelField.{label-keeps}
use Rattle.layout.proofs.RuleLine.{rule-means, rule-passes, rule-plain}

-- five fields of which three are written otherwise
five_are : (a a' b c d d' e e' : List ℕ) → a ≡ a' → d' ≡ d → e' ≡ e
    → ◌≡◌ {A = List (List ℕ)} (a ∷ b ∷ c ∷ d ∷ e ∷ []) (a' ∷ b ∷ c ∷ d' ∷ e' ∷ [])
five_are a a' b c d d' e e' p q r = rw (p, ← q, ← r)

rule-read : {sheet : List ℕ} {Γ : Network} {c : Contents} → Stands sheet Γ c → (fs : List (List ℕ))
    → first_failing_lem (rule_tests sheet Γ fs) ≡ none
    → (x : Rule) × (fs ≡ kind_text x.kind ∷ rule_fields x) × KeepsRule c.names (signal_letters c.signals) x
unfolding kind_tests ends_tests rule_tests
rule-read {sheet} {Γ} s fs e =
    let holds = all_hold (rule_tests sheet Γ fs) e in
    let from = field 1 fs in
    let to = field 2 fs in
    let limit = field 3 fs in
    let label = field 4 fs in
    let bs = letters_of (label_of label) in
    let areDefined = all_defined_lem Γ.signals Γ.letters bs in
    let isFrom = answers (event_of sheet Γ from) in
    let isTo = answers (event_of sheet Γ to) in
    let k = kind-read (field 0 fs) (holds 1) (holds 2) in
    let q = and-true (is_name_lem from) (is_name_lem to && is_label_lem label) (holds 5) in
    let l = is-label label (and-true (is_name_lem to) (is_label_lem label) q.1).1 in
    let u = and-true isFrom (isTo && areDefined) (holds 6) in
    let v = and-true isTo areDefined u.1 in (
      record { kind = k.0; from = from; to = to; limit = value_of limit; label = label_of label },
      all_of [] 5 fs (eqb-true (length fs) 5 (holds 0))
          ∙ five_are (field 0 fs) (kind_text k.0) from to limit (signed_text (value_of limit)) label
          (label_text (label_of label)) k.1 (N.signed_text_value_of limit (holds 3)) l.text,
      record {
        from = event_in s.holds from u.0;
        to = event_in s.holds to v.0;
        limit = N.value_of_limits limit (leb-true (magnitude limit) L.horizon (holds 4));
        label = label-keeps s (label_of label) v.1 (holds 7);
      },
    )

module _ (sheet : List ℕ) (h : ℕ) (names : List (List ℕ)) (xs : List Signal) where
  pub rules-understood :
      Understood sheet Rules (λ x. kind_text x.kind) rule_fields
      (λ m Γ rs. Stands sheet Γ (contents h names xs rs)) (KeptRules names xs)
      (λ m rs x. KeepsRule names (signal_letters xs) x)
  rules-understood = record {
    may = λ rs ys x k. each_at no_rule rs x (KeepsRule names (signal_letters xs)) ys k;
    reads = λ m s fs e. rule-read s fs e;
    passes = λ n s x m. rule-passes s x m;
    plain = λ s x m. rule-plain s x m;
    adds = λ n j {Γ} s x m few at rest e.
        rule-added s x (rule_of sheet Γ (kind_text x.kind ∷ rule_fields x)) m few (rule-means s x m);
  }
