-- The form is tested first, then the letter, and then the event. What is found on the way is said of the places where
-- it is found. Assumes nothing.
use mathlib.Core.Path.{◌≡◌, sym, ◌∙◌}
use mathlib.Core.Bool.{true, false, ◌&&◌, and-false}
use mathlib.Core.Option.{some}
use lib.ListN.{length, get_or}
use Rattle.prelude.specs.Search.{answers}
use Rattle.prelude.proofs.Options.{option_of-some, then_some_none, then_some_some}
use Rattle.text.specs.Lines.{fields, field}
use Rattle.refusal.specs.declared.Cause.TheVariants as C
use Rattle.names.specs.Names.{is_name_lem, is_one_letter_lem}
use Rattle.names.specs.Defined.{place_of}
use Rattle.line.specs.Tests.{event_of, signal_of}
use Rattle.line.proofs.Refusals.{exits-none, exits_without, found-is, signal-count, signal_ill, signal-twice}
use Rattle.line.proofs.Refusals.{signal-unknown, signal-given, signal-passes}
use Rattle.line.proofs.entry.signal_fields.Goals.{In_ok-fields, In_ok-letter, Else-not-is_name, Else-is_some}
use Rattle.line.proofs.entry.signal_fields.Goals.{In_ok-observation}
use Rattle.line.proofs.entry.signal_fields.Goals as goal

-- the fields are those of the line, and two
line_is : (d : In_ok-fields) → d.in_ok-fields.fields.line.now ≡ d.args.line.now
line_is d = rw d.in_ok-fields.ensures.ok_part at d.of.ensures

two : (d : In_ok-fields) → length (fields d.args.line.now) ≡ 2
two d = rw (line_is d) at d.in_ok-fields.fields.cut.counted

-- the first is the letter
letter : (d : In_ok-letter) → let f = field 0 (fields d.args.line.now) in
    (is_one_letter_lem f ≡ true) × (get_or f 0 0 ≡ d.in_ok-letter.letter)
letter d =
    let f = d.at.result.now in
    let found = then_some_some (is_one_letter_lem f) (get_or f 0 0) d.in_ok-letter.letter
    (sym d.one_letter.ensures ∙ d.in_ok-letter.ensures.ok_part) in
    rw (d.at.ensures.is, line_is (goal.at.In_ok-letter d).In_ok-fields) at found

formed : (d : Else-not-is_name) → let fs = fields d.args.line.now in
    is_one_letter_lem (field 0 fs) && is_name_lem (field 1 fs) ≡ true
formed d =
    let form = sym d.is_name.ensures ∙ d.if-not-is_name.false in
    let places = goal.at.Else-not-is_name d in
    rw ((letter places.In_ok-letter).0, rw (d.at-event.ensures.is, line_is places.In_ok-fields) at form)

-- it is not defined yet, and the event is
fresh : (d : Else-is_some) → answers (signal_of d.args.defined.now.network.now (field 0 (fields d.args.line.now)))
    ≡ false
fresh d =
    let Γ = d.args.defined.now.network.now in
    let none = found-is (place_of Γ.signals Γ.letters d.in_ok-letter.letter) d.place_of.result
    d.is_some.result _ d.place_of.ensures d.is_some.ensures d.if-is_some.false in
    rw (letter (goal.at.Else-is_some d).In_ok-letter).1 none

known : (d : In_ok-observation) → let defined = d.args.defined.now in
    event_of defined.sheet.now defined.network.now (field 1 (fields d.args.line.now))
    ≡ some d.in_ok-observation.observation
known d =
    let defined = d.args.defined.now in
    let found = option_of-some (event_of defined.sheet.now defined.network.now d.at-event.result.now)
    d.in_ok-observation.observation (sym d.event_named.ensures ∙ d.in_ok-observation.ensures.ok_part) in
    rw (d.at-event.ensures.is, line_is (goal.at.In_ok-observation d).In_ok-fields) at found

pub returns-in_err-fields : goal.returns-in_err-fields
returns-in_err-fields c =
    let defined = c.args.defined.now in
    let none = exits-none c.from_residual.result c.in_err-fields.field-0.0 C.WrongFields c.of.result
    c.from_residual.ensures.1 c.in_err-fields.ensures.value in
    none.1
    ∙ sym (rw (signal-count defined.sheet.now defined.network.now (fields c.args.line.now) (rw none.0 at c.of.ensures)))

pub returns-in_err-letter : goal.returns-in_err-letter
returns-in_err-letter c =
    let defined = c.args.defined.now in
    let d = (goal.at.returns-in_err-letter c).In_ok-fields in
    let f = c.at.result.now in
    let none = exits-none c.from_residual-in_err-letter.result c.in_err-letter.field-0.0 C.IllFormedName
    c.one_letter.result c.from_residual-in_err-letter.ensures.1 c.in_err-letter.ensures.value in
    let ill = then_some_none (is_one_letter_lem f) (get_or f 0 0) (sym c.one_letter.ensures ∙ none.0) in
    none.1 ∙ sym (rw (signal_ill defined.sheet.now defined.network.now (fields c.args.line.now) (two d)
    (rw (rw (c.at.ensures.is, line_is d) at ill))))

pub returns-then-not-is_name : goal.returns-then-not-is_name
returns-then-not-is_name c =
    let defined = c.args.defined.now in
    let d = (goal.at.returns-then-not-is_name c).In_ok-fields in
    let ill = sym c.is_name.ensures ∙ c.if-not-is_name.true in
    sym (rw (signal_ill defined.sheet.now defined.network.now (fields c.args.line.now) (two d)
    (rw (rw (c.at-event.ensures.is, line_is d) at ill, and-false))))

pub returns-then-is_some : goal.returns-then-is_some
returns-then-is_some c =
    let defined = c.args.defined.now in
    let Γ = defined.network.now in
    let d = goal.at.returns-then-is_some c in
    let twice = found-is (place_of Γ.signals Γ.letters c.in_ok-letter.letter) c.place_of.result
    c.is_some.result _ c.place_of.ensures c.is_some.ensures c.if-is_some.true in
    sym (rw (signal-twice defined.sheet.now Γ (fields c.args.line.now) (two d.In_ok-fields) (formed d.Else-not-is_name)
    (rw (letter d.In_ok-letter).1 twice)))

pub returns-in_err-observation : goal.returns-in_err-observation
returns-in_err-observation c =
    let defined = c.args.defined.now in
    let d = goal.at.returns-in_err-observation c in
    let nothing = exits_without c.from_residual-in_err-observation.result c.in_err-observation.field-0.0 C.Undefined
    (event_of defined.sheet.now defined.network.now c.at-event.result.now) c.from_residual-in_err-observation.ensures.1
    (rw c.event_named.ensures at c.in_err-observation.ensures.value) in
    nothing.1 ∙ sym (rw (signal-unknown defined.sheet.now defined.network.now (fields c.args.line.now)
    (two d.In_ok-fields) (formed d.Else-not-is_name) (fresh d.Else-is_some)
    (rw (c.at-event.ensures.is, line_is d.In_ok-fields) at nothing.0)))

pub returns-then-gives_signal : goal.returns-then-gives_signal
returns-then-gives_signal c =
    let defined = c.args.defined.now in
    let d = goal.at.returns-then-gives_signal c in
    sym (rw (signal-given defined.sheet.now defined.network.now (fields c.args.line.now) (two d.In_ok-fields)
    (formed d.Else-not-is_name) (fresh d.Else-is_some) c.in_ok-observation.observation (known d.In_ok-observation)
    (sym c.gives_signal.ensures ∙ c.if-gives_signal.true)))

pub returns : goal.returns
returns c =
    let defined = c.args.defined.now in
    let d = goal.at.returns c in
    rw (
      signal-passes defined.sheet.now defined.network.now (fields c.args.line.now) (two d.In_ok-fields)
          (formed d.Else-not-is_name) (fresh d.Else-is_some) c.in_ok-observation.observation
          (known d.In_ok-observation) (sym c.gives_signal.ensures ∙ c.if-gives_signal.false),
      known d.In_ok-observation,
      (letter d.In_ok-letter).1,
    )
