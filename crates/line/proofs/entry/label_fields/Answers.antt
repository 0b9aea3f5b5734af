-- The form is tested first, then the event, and then the label. What is found on the way is said of the places where it
-- is found. Assumes nothing.
use mathlib.Core.Path.{◌≡◌, sym, ◌∙◌, ap}
use mathlib.Core.Bool.{true, ◌&&◌}
use mathlib.Core.Option.{some}
use mathlib.Core.List.{List}
use Prim.Native.Nat.{ℕ}
use native.Mathlib.Omega.{arith}
use lib.ListN.{length}
use Rattle.std.specs.Prelude.{Ok}
use Rattle.prelude.specs.Checks.{first_failing_lem}
use Rattle.prelude.proofs.Options.{option_of-some}
use Rattle.text.specs.Lines.{fields, field}
use Rattle.refusal.specs.declared.Cause.TheVariants as C
use Rattle.names.specs.Names.{is_name_lem, is_label_lem, label_of}
use Rattle.names.specs.Defined.{mask_of}
use Rattle.line.specs.Tests.{event_of, letters_tests}
use Rattle.line.specs.declared.entry.Entry.TheVariants.{Label}
use Rattle.line.proofs.Refusals.{answer-err, answer-ok, exits, exits-none, exits_without, of_line, moved-letters}
use Rattle.line.proofs.LabelRefusals.{event-below, label-count, label_ill, label-nowhere, label-second, label-letters}
use Rattle.line.proofs.entry.label_fields.Goals.{In_ok-fields, Else-not-is_placed, In_ok-event}
use Rattle.line.proofs.entry.label_fields.Goals as goal

-- the fields are those of the line, and two
line_is : (d : In_ok-fields) → d.in_ok-fields.fields.line.now ≡ d.args.line.now
line_is d = rw d.in_ok-fields.ensures.ok_part at d.of.ensures

two : (d : In_ok-fields) → length (fields d.args.line.now) ≡ 2
two d = rw (line_is d) at d.in_ok-fields.fields.cut.counted

formed : (d : Else-not-is_placed) → let fs = fields d.args.line.now in
    is_name_lem (field 0 fs) && is_label_lem (field 1 fs) ≡ true
formed d =
    let form = sym d.is_placed.ensures ∙ d.if-not-is_placed.false in
    rw (d.at-name.ensures.is, d.at-field.ensures.is, line_is (goal.at.Else-not-is_placed d).In_ok-fields) at form

-- the event is defined
known : (d : In_ok-event) → let defined = d.args.defined.now in
    event_of defined.sheet.now defined.network.now (field 0 (fields d.args.line.now)) ≡ some d.in_ok-event.event
known d =
    let defined = d.args.defined.now in
    let found = option_of-some (event_of defined.sheet.now defined.network.now d.at-name.result.now)
    d.in_ok-event.event (sym d.event_named.ensures ∙ d.in_ok-event.ensures.ok_part) in
    rw (d.at-name.ensures.is, line_is (goal.at.In_ok-event d).In_ok-fields) at found

pub returns-in_err-fields : goal.returns-in_err-fields
returns-in_err-fields c =
    let defined = c.args.defined.now in
    let none = exits-none c.from_residual.result c.in_err-fields.field-0.0 C.WrongFields c.of.result
    c.from_residual.ensures.1 c.in_err-fields.ensures.value in
    none.1
    ∙ sym (rw (label-count defined.sheet.now defined.network.now (fields c.args.line.now) (rw none.0 at c.of.ensures)))

pub returns-then-not-is_placed : goal.returns-then-not-is_placed
returns-then-not-is_placed c =
    let defined = c.args.defined.now in
    let d = (goal.at.returns-then-not-is_placed c).In_ok-fields in
    let ill = sym c.is_placed.ensures ∙ c.if-not-is_placed.true in
    sym (rw (label_ill defined.sheet.now defined.network.now (fields c.args.line.now) (two d)
    (rw (c.at-name.ensures.is, c.at-field.ensures.is, line_is d) at ill)))

pub returns-in_err-event : goal.returns-in_err-event
returns-in_err-event c =
    let defined = c.args.defined.now in
    let d = goal.at.returns-in_err-event c in
    let nothing = exits_without c.from_residual-in_err-event.result c.in_err-event.field-0.0 C.Undefined
    (event_of defined.sheet.now defined.network.now c.at-name.result.now) c.from_residual-in_err-event.ensures.1
    (rw c.event_named.ensures at c.in_err-event.ensures.value) in
    nothing.1 ∙ sym (rw (label-nowhere defined.sheet.now defined.network.now (fields c.args.line.now)
    (two d.In_ok-fields) (formed d.Else-not-is_placed)
    (rw (c.at-name.ensures.is, line_is d.In_ok-fields) at nothing.0)))

pub bounds-defined-event : goal.bounds-defined-event
bounds-defined-event c =
    let defined = c.args.defined.now in
    let f = field 0 (fields c.args.line.now) in
    let d = (goal.at.bounds-defined-event c).In_ok-event in
    omega (
      arith,
      event-below defined.sheet.now defined.network.now f c.in_ok-event.event (known d),
      defined.names.few_events,
    )

pub returns-then-defined-event : goal.returns-then-defined-event
returns-then-defined-event c =
    let defined = c.args.defined.now in
    let d = goal.at.returns-then-defined-event c in
    sym (rw (label-second defined.sheet.now defined.network.now (fields c.args.line.now) (two d.In_ok-fields)
    (formed d.Else-not-is_placed) c.in_ok-event.event (known d.In_ok-event) c.if-defined-event.true))

pub returns-in_err-label : goal.returns-in_err-label
returns-in_err-label c =
    let sheet = c.args.defined.now.sheet.now in
    let Γ = c.args.defined.now.network.now in
    let fs = fields c.args.line.now in
    let d = goal.at.returns-in_err-label c in
    let f = c.at-field.result.now in
    let e = c.in_err-label.field-0.0 in
    let why = answer-err (first_failing_lem (letters_tests Γ f)) (mask_of Γ.signals Γ.letters (label_of f)) e
    (sym c.in_err-label.ensures) in
    exits c.from_residual-in_err-label.result e c.from_residual-in_err-label.ensures.1
    ∙ sym (rw (
      label-letters sheet Γ fs (two d.In_ok-fields) (formed d.Else-not-is_placed) c.in_ok-event.event
          (known d.In_ok-event) c.if-defined-event.false,
      moved-letters Γ f (field 1 fs) (of_line 1 c.at-field.ensures.is (line_is d.In_ok-fields)) why,
    ))

pub returns : goal.returns
returns c =
    let sheet = c.args.defined.now.sheet.now in
    let Γ = c.args.defined.now.network.now in
    let fs = fields c.args.line.now in
    let d = goal.at.returns c in
    let f = c.at-field.result.now in
    let label = answer-ok (first_failing_lem (letters_tests Γ f)) (mask_of Γ.signals Γ.letters (label_of f))
    c.in_ok-label.label (sym c.in_ok-label.ensures) in
    let is-label = of_line 1 c.at-field.ensures.is (line_is d.In_ok-fields) in
    rw (
      label-letters sheet Γ fs (two d.In_ok-fields) (formed d.Else-not-is_placed) c.in_ok-event.event
          (known d.In_ok-event) c.if-defined-event.false,
      moved-letters Γ f (field 1 fs) is-label label.0,
      known d.In_ok-event,
      ← label.1,
    )
    (ap (λ (g : List ℕ). Ok (Label c.in_ok-event.event (mask_of Γ.signals Γ.letters (label_of g)))) is-label)
