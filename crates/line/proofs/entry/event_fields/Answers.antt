-- The tests are tried in the order of `event_tests`. Assumes nothing.
use mathlib.Core.Path.{◌≡◌, sym, ◌∙◌}
use mathlib.Core.Bool.{true}
use lib.ListN.{length}
use Rattle.text.specs.Lines.{fields, field}
use Rattle.refusal.specs.declared.Cause.TheVariants as C
use Rattle.names.specs.Names.{is_name_lem}
use Rattle.line.specs.Tests.{event_of}
use Rattle.line.proofs.Refusals.{exits-none, found-is, event-count, event_ill, event-twice, event-passes}
use Rattle.line.proofs.entry.event_fields.Goals.{In_ok-fields, Else-not-is_name}
use Rattle.line.proofs.entry.event_fields.Goals as goal

-- the fields are those of the line, and one
line_is : (d : In_ok-fields) → d.in_ok-fields.fields.line.now ≡ d.args.line.now
line_is d = rw d.in_ok-fields.ensures.ok_part at d.of.ensures

one : (d : In_ok-fields) → length (fields d.args.line.now) ≡ 1
one d = rw (line_is d) at d.in_ok-fields.fields.cut.counted

named : (d : Else-not-is_name) → is_name_lem (field 0 (fields d.args.line.now)) ≡ true
named d =
    let form = sym d.is_name.ensures ∙ d.if-not-is_name.false in
    rw (d.at-name.ensures.is, line_is (goal.at.Else-not-is_name d).In_ok-fields) at form

pub returns-in_err-fields : goal.returns-in_err-fields
returns-in_err-fields c =
    let defined = c.args.defined.now in
    let none = exits-none c.from_residual.result c.in_err-fields.field-0.0 C.WrongFields c.of.result
    c.from_residual.ensures.1 c.in_err-fields.ensures.value in
    none.1
    ∙ sym (rw (event-count defined.sheet.now defined.network.now (fields c.args.line.now) (rw none.0 at c.of.ensures)))

pub returns-then-not-is_name : goal.returns-then-not-is_name
returns-then-not-is_name c =
    let defined = c.args.defined.now in
    let d = (goal.at.returns-then-not-is_name c).In_ok-fields in
    let ill = sym c.is_name.ensures ∙ c.if-not-is_name.true in
    sym (rw (event_ill defined.sheet.now defined.network.now (fields c.args.line.now) (one d)
    (rw (c.at-name.ensures.is, line_is d) at ill)))

pub returns-then-is_some : goal.returns-then-is_some
returns-then-is_some c =
    let defined = c.args.defined.now in
    let d = goal.at.returns-then-is_some c in
    let found = found-is (event_of defined.sheet.now defined.network.now c.at-name.result.now) c.event_named.result
    c.is_some.result _ c.event_named.ensures c.is_some.ensures c.if-is_some.true in
    sym (rw (event-twice defined.sheet.now defined.network.now (fields c.args.line.now) (one d.In_ok-fields)
    (named d.Else-not-is_name) (rw (c.at-name.ensures.is, line_is d.In_ok-fields) at found)))

pub returns : goal.returns
returns c =
    let defined = c.args.defined.now in
    let d = goal.at.returns c in
    let fresh = found-is (event_of defined.sheet.now defined.network.now c.at-name.result.now) c.event_named.result
    c.is_some.result _ c.event_named.ensures c.is_some.ensures c.if-is_some.false in
    sym (rw (event-passes defined.sheet.now defined.network.now (fields c.args.line.now) (one d.In_ok-fields)
    (named d.Else-not-is_name) (rw (c.at-name.ensures.is, line_is d.In_ok-fields) at fresh)))
