-- Count, kind and limit are tested first; then the form, the ends and the label. What is found on the way is said of
-- the places where it is found. Assumes nothing.
use mathlib.Core.Path.{◌≡◌, sym, ◌∙◌, ap}
use mathlib.Core.Bool.{true, ◌&&◌}
use mathlib.Core.Option.{none, some}
use Rattle.std.proofs.Math.Option
use mathlib.Core.List.{List}
use Prim.Native.Nat.{ℕ}
use lib.ListN.{length}
use Rattle.std.specs.Prelude.{Ok}
use Rattle.prelude.specs.Checks.{first_failing_lem}
use Rattle.prelude.proofs.Options.{option_of-some}
use Rattle.text.specs.Lines.{fields, field}
use Rattle.text.specs.Number.{value_of}
use Rattle.refusal.specs.declared.Cause.TheVariants as C
use Rattle.network.specs.declared.Kind.TheVariants.{Max}
use Rattle.network.specs.declared.Constraint.{Constraint}
use Rattle.names.specs.Names.{is_name_lem, is_label_lem, label_of}
use Rattle.names.specs.Defined.{mask_of}
use Rattle.line.specs.Tests.{event_of, kind_of, kind_tests, limit_tests, letters_tests, ends_tests, rule_tests}
use Rattle.line.specs.declared.entry.Entry.TheVariants.{Rule}
use Rattle.line.proofs.Refusals.{answer-err, answer-ok, exits, exits-none, exits_without, of_line}
use Rattle.line.proofs.Refusals.{moved-letters}
use Rattle.line.proofs.RuleRefusals.{limit-fits, rule-count, rule-kind, rule-limit, rule-ends, rule-is}
use Rattle.line.proofs.RuleRefusals.{ends_ill, ends-from, ends-to, ends-letters}
use Rattle.line.proofs.entry.rule_fields.Goals.{In_ok-fields, In_ok-kind, In_ok-bound, Else-not-is_rule, In_ok-from}
use Rattle.line.proofs.entry.rule_fields.Goals.{In_ok-to}
use Rattle.line.proofs.entry.rule_fields.Goals as goal

abbrev fs : In_ok-fields → List (List ℕ)
fs d = fields d.args.line.now

-- the fields are those of the line, and five
line_is : (d : In_ok-fields) → d.in_ok-fields.fields.line.now ≡ d.args.line.now
line_is d = rw d.in_ok-fields.ensures.ok_part at d.of.ensures

five : (d : In_ok-fields) → length (fs d) ≡ 5
five d = rw (line_is d) at d.in_ok-fields.fields.cut.counted

-- the kind passed, and is that of the first field
kind : (d : In_ok-kind) → let f = field 0 (fs (goal.at.In_ok-kind d).In_ok-fields) in
    (first_failing_lem (kind_tests f) ≡ none) × (Option.get_or (kind_of f) Max ≡ d.in_ok-kind.kind)
kind d =
    let f = d.at.result.now in
    let found = answer-ok (first_failing_lem (kind_tests f)) (Option.get_or (kind_of f) Max) d.in_ok-kind.kind
    (sym d.in_ok-kind.ensures) in
    let is-first = of_line 0 d.at.ensures.is (line_is (goal.at.In_ok-kind d).In_ok-fields) in
    (rw is-first at found.0, ap (λ (g : List ℕ). Option.get_or (kind_of g) Max) (sym is-first) ∙ found.1)

-- the limit passed, and is what its field says; what is left is the ends and the label
limit : (d : In_ok-bound) → let f = field 3 (fs (goal.at.In_ok-bound d).In_ok-fields) in
    (first_failing_lem (limit_tests f) ≡ none) × (value_of f ≡ d.in_ok-bound.bound)
limit d =
    let f = d.at-2.result.now in
    let found = answer-ok (first_failing_lem (limit_tests f)) (value_of f) d.in_ok-bound.bound
    (sym d.in_ok-bound.ensures) in
    rw (d.at-2.ensures.is, line_is (goal.at.In_ok-bound d).In_ok-fields) at found

to_ends : (d : In_ok-bound) → let defined = d.args.defined.now in
    let gs = fs (goal.at.In_ok-bound d).In_ok-fields in
    first_failing_lem (rule_tests defined.sheet.now defined.network.now gs)
    ≡ first_failing_lem (ends_tests defined.sheet.now defined.network.now (field 1 gs) (field 2 gs) (field 4 gs))
to_ends d =
    let defined = d.args.defined.now in
    let places = goal.at.In_ok-bound d in
    rule-ends defined.sheet.now defined.network.now (fs places.In_ok-fields) (five places.In_ok-fields)
    (kind places.In_ok-kind).0 (limit d).0

-- the form of the ends and the label, and both ends
formed : (d : Else-not-is_rule) → let gs = fs (goal.at.Else-not-is_rule d).In_ok-fields in
    is_name_lem (field 1 gs) && (is_name_lem (field 2 gs) && is_label_lem (field 4 gs)) ≡ true
formed d =
    let form = sym d.is_rule.ensures ∙ d.if-not-is_rule.false in
    rw (
      d.at-first.ensures.is,
      d.at-second.ensures.is,
      d.at-field.ensures.is,
      line_is (goal.at.Else-not-is_rule d).In_ok-fields,
    ) at form

from : (d : In_ok-from) → let defined = d.args.defined.now in
    event_of defined.sheet.now defined.network.now (field 1 (fs (goal.at.In_ok-from d).In_ok-fields))
    ≡ some d.in_ok-from.from
from d =
    let defined = d.args.defined.now in
    let found = option_of-some (event_of defined.sheet.now defined.network.now d.at-first.result.now)
    d.in_ok-from.from (sym d.event_named.ensures ∙ d.in_ok-from.ensures.ok_part) in
    rw (d.at-first.ensures.is, line_is (goal.at.In_ok-from d).In_ok-fields) at found

to : (d : In_ok-to) → let defined = d.args.defined.now in
    event_of defined.sheet.now defined.network.now (field 2 (fs (goal.at.In_ok-to d).In_ok-fields)) ≡ some d.in_ok-to.to
to d =
    let defined = d.args.defined.now in
    let found = option_of-some (event_of defined.sheet.now defined.network.now d.at-second.result.now)
    d.in_ok-to.to (sym d.event_named-2.ensures ∙ d.in_ok-to.ensures.ok_part) in
    rw (d.at-second.ensures.is, line_is (goal.at.In_ok-to d).In_ok-fields) at found

to_letters : (d : In_ok-to) → let defined = d.args.defined.now in
    let gs = fs (goal.at.In_ok-to d).In_ok-fields in
    first_failing_lem (rule_tests defined.sheet.now defined.network.now gs)
    ≡ first_failing_lem (letters_tests defined.network.now (field 4 gs))
to_letters d =
    let defined = d.args.defined.now in
    let places = goal.at.In_ok-to d in
    let gs = fs places.In_ok-fields in
    to_ends places.In_ok-bound
    ∙ ends-letters defined.sheet.now defined.network.now (field 1 gs) (field 2 gs) (field 4 gs)
    (formed places.Else-not-is_rule) d.in_ok-from.from (from places.In_ok-from) d.in_ok-to.to (to d)

pub returns-in_err-fields : goal.returns-in_err-fields
returns-in_err-fields c =
    let defined = c.args.defined.now in
    let none = exits-none c.from_residual.result c.in_err-fields.field-0.0 C.WrongFields c.of.result
    c.from_residual.ensures.1 c.in_err-fields.ensures.value in
    none.1
    ∙ sym (rw (rule-count defined.sheet.now defined.network.now (fields c.args.line.now) (rw none.0 at c.of.ensures)))

pub returns-in_err-kind : goal.returns-in_err-kind
returns-in_err-kind c =
    let defined = c.args.defined.now in
    let d = (goal.at.returns-in_err-kind c).In_ok-fields in
    let f = c.at.result.now in
    let e = c.in_err-kind.field-0.0 in
    let why = answer-err (first_failing_lem (kind_tests f)) (Option.get_or (kind_of f) Max) e
    (sym c.in_err-kind.ensures) in
    exits c.from_residual-in_err-kind.result e c.from_residual-in_err-kind.ensures.1
    ∙ sym (rw (rule-kind defined.sheet.now defined.network.now (fs d) (five d) e
    (rw (c.at.ensures.is, line_is d) at why)))

pub returns-in_err-bound : goal.returns-in_err-bound
returns-in_err-bound c =
    let defined = c.args.defined.now in
    let places = goal.at.returns-in_err-bound c in
    let d = places.In_ok-fields in
    let f = c.at-2.result.now in
    let e = c.in_err-bound.field-0.0 in
    let why = answer-err (first_failing_lem (limit_tests f)) (value_of f) e (sym c.in_err-bound.ensures) in
    exits c.from_residual-in_err-bound.result e c.from_residual-in_err-bound.ensures.1
    ∙ sym (rw (rule-limit defined.sheet.now defined.network.now (fs d) (five d) (kind places.In_ok-kind).0 e
    (rw (c.at-2.ensures.is, line_is d) at why)))

pub returns-then-not-is_rule : goal.returns-then-not-is_rule
returns-then-not-is_rule c =
    let defined = c.args.defined.now in
    let places = goal.at.returns-then-not-is_rule c in
    let d = places.In_ok-fields in
    let ill = sym c.is_rule.ensures ∙ c.if-not-is_rule.true in
    sym (rw (
      to_ends places.In_ok-bound,
      ends_ill defined.sheet.now defined.network.now (field 1 (fs d)) (field 2 (fs d)) (field 4 (fs d))
          (rw (c.at-first.ensures.is, c.at-second.ensures.is, c.at-field.ensures.is, line_is d) at ill),
    ))

pub returns-in_err-from : goal.returns-in_err-from
returns-in_err-from c =
    let defined = c.args.defined.now in
    let places = goal.at.returns-in_err-from c in
    let d = places.In_ok-fields in
    let nothing = exits_without c.from_residual-in_err-from.result c.in_err-from.field-0.0 C.Undefined
    (event_of defined.sheet.now defined.network.now c.at-first.result.now) c.from_residual-in_err-from.ensures.1
    (rw c.event_named.ensures at c.in_err-from.ensures.value) in
    nothing.1 ∙ sym (rw (
      to_ends places.In_ok-bound,
      ends-from defined.sheet.now defined.network.now (field 1 (fs d)) (field 2 (fs d)) (field 4 (fs d))
          (formed places.Else-not-is_rule) (rw (c.at-first.ensures.is, line_is d) at nothing.0),
    ))

pub returns-in_err-to : goal.returns-in_err-to
returns-in_err-to c =
    let defined = c.args.defined.now in
    let places = goal.at.returns-in_err-to c in
    let d = places.In_ok-fields in
    let nothing = exits_without c.from_residual-in_err-to.result c.in_err-to.field-0.0 C.Undefined
    (event_of defined.sheet.now defined.network.now c.at-second.result.now) c.from_residual-in_err-to.ensures.1
    (rw c.event_named-2.ensures at c.in_err-to.ensures.value) in
    nothing.1 ∙ sym (rw (
      to_ends places.In_ok-bound,
      ends-to defined.sheet.now defined.network.now (field 1 (fs d)) (field 2 (fs d)) (field 4 (fs d))
          (formed places.Else-not-is_rule) c.in_ok-from.from (from places.In_ok-from)
          (rw (c.at-second.ensures.is, line_is d) at nothing.0),
    ))

pub returns-in_err-label : goal.returns-in_err-label
returns-in_err-label c =
    let Γ = c.args.defined.now.network.now in
    let places = goal.at.returns-in_err-label c in
    let d = places.In_ok-fields in
    let e = c.in_err-label.field-0.0 in
    let f = c.at-field.result.now in
    let why = answer-err (first_failing_lem (letters_tests Γ f)) (mask_of Γ.signals Γ.letters (label_of f)) e
    (sym c.in_err-label.ensures) in
    exits c.from_residual-in_err-label.result e c.from_residual-in_err-label.ensures.1
    ∙ sym (rw (
      to_letters places.In_ok-to,
      moved-letters Γ f (field 4 (fs d)) (of_line 4 c.at-field.ensures.is (line_is d)) why,
    ))

pub returns : goal.returns
returns c =
    let sheet = c.args.defined.now.sheet.now in
    let Γ = c.args.defined.now.network.now in
    let places = goal.at.returns c in
    let d = places.In_ok-fields in
    let f = c.at-field.result.now in
    let value = limit places.In_ok-bound in
    let label = answer-ok (first_failing_lem (letters_tests Γ f)) (mask_of Γ.signals Γ.letters (label_of f))
    c.in_ok-label.label (sym c.in_ok-label.ensures) in
    let is-label = of_line 4 c.at-field.ensures.is (line_is d) in
    rw (
      to_letters places.In_ok-to,
      moved-letters Γ f (field 4 (fs d)) is-label label.0,
      limit-fits (field 3 (fs d)) c.in_ok-bound.bound value.0 value.1,
      ← label.1,
    )
    (ap (λ (r : Constraint). Ok (Rule r))
    (sym (rule-is sheet Γ (fs d) c.in_ok-kind.kind c.in_ok-from.from c.in_ok-to.to c.in_ok-bound.bound
    (kind places.In_ok-kind).1 (from places.In_ok-from) (to places.In_ok-to) value.1
    ∙ ap (λ (g : List ℕ). record {
      kind = c.in_ok-kind.kind;
      from = c.in_ok-from.from;
      to = c.in_ok-to.to;
      bound = c.in_ok-bound.bound;
      label = mask_of Γ.signals Γ.letters (label_of g);
    }) (sym is-label))))
