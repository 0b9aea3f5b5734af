-- The count of fields is tested first, then the minutes, and then the letter. What is found on the way is said of the
-- places where it is found. Assumes nothing.
use mathlib.Core.Path.{◌≡◌, sym, ◌∙◌}
use mathlib.Core.Bool.{true}
use mathlib.Core.Option.{none, some}
use native.Mathlib.Omega.{arith}
use borrow.Author.Tests.{ltb-true, ltb-false}
use lib.ListN.{length, get_or}
use Rattle.prelude.specs.Checks.{first_failing_lem}
use Rattle.prelude.proofs.Options.{option_of-some, then_some_none, then_some_some}
use Rattle.text.specs.Lines.{fields, field}
use Rattle.text.specs.Number.{magnitude}
use Rattle.refusal.specs.declared.Cause.TheVariants as C
use Rattle.network.specs.Limits as L
use Rattle.names.specs.Names.{is_one_letter_lem}
use Rattle.names.specs.Defined.{place_of}
use Rattle.line.specs.Tests.{count_tests, signal_of}
use Rattle.line.proofs.Refusals.{answer-err, answer-ok, exits, exits-none, exits_without}
use Rattle.line.proofs.ReactionRefusals.{signal-below, reaction-count, reaction-minutes, reaction_ill}
use Rattle.line.proofs.ReactionRefusals.{reaction-unknown, reaction-twice, reaction-passes}
use Rattle.line.proofs.entry.reaction_fields.Goals.{In_ok-fields, In_ok-minutes, In_ok-letter, In_ok-signal}
use Rattle.line.proofs.entry.reaction_fields.Goals as goal

-- the fields are those of the line, and two
line_is : (d : In_ok-fields) → d.in_ok-fields.fields.line.now ≡ d.args.line.now
line_is d = rw d.in_ok-fields.ensures.ok_part at d.of.ensures

two : (d : In_ok-fields) → length (fields d.args.line.now) ≡ 2
two d = rw (line_is d) at d.in_ok-fields.fields.cut.counted

-- the second is the minutes
minutes : (d : In_ok-minutes) → let f = field 1 (fields d.args.line.now) in
    (first_failing_lem (count_tests L.fastest L.slowest f) ≡ none) × (magnitude f ≡ d.in_ok-minutes.minutes)
minutes d =
    let f = d.at.result.now in
    let said = answer-ok (first_failing_lem (count_tests L.fastest L.slowest f)) (magnitude f) d.in_ok-minutes.minutes
    (sym (rw d.from.ensures at d.in_ok-minutes.ensures)) in
    rw (d.at.ensures.is, line_is (goal.at.In_ok-minutes d).In_ok-fields) at said

-- the first is the letter, and it is defined
letter : (d : In_ok-letter) → let f = field 0 (fields d.args.line.now) in
    (is_one_letter_lem f ≡ true) × (get_or f 0 0 ≡ d.in_ok-letter.letter)
letter d =
    let f = d.at-2.result.now in
    let found = then_some_some (is_one_letter_lem f) (get_or f 0 0) d.in_ok-letter.letter
    (sym d.one_letter.ensures ∙ d.in_ok-letter.ensures.ok_part) in
    rw (d.at-2.ensures.is, line_is (goal.at.In_ok-letter d).In_ok-fields) at found

known : (d : In_ok-signal) → signal_of d.args.defined.now.network.now (field 0 (fields d.args.line.now))
    ≡ some d.in_ok-signal.signal
known d =
    let Γ = d.args.defined.now.network.now in
    let found = option_of-some (place_of Γ.signals Γ.letters d.in_ok-letter.letter) d.in_ok-signal.signal
    (sym d.place_of.ensures ∙ d.in_ok-signal.ensures.ok_part) in
    rw (letter (goal.at.In_ok-signal d).In_ok-letter).1 found

pub returns-in_err-fields : goal.returns-in_err-fields
returns-in_err-fields c =
    let none = exits-none c.from_residual.result c.in_err-fields.field-0.0 C.WrongFields c.of.result
    c.from_residual.ensures.1 c.in_err-fields.ensures.value in
    none.1
    ∙ sym (rw (reaction-count c.args.defined.now.network.now (fields c.args.line.now) (rw none.0 at c.of.ensures)))

pub returns-in_err-minutes : goal.returns-in_err-minutes
returns-in_err-minutes c =
    let d = (goal.at.returns-in_err-minutes c).In_ok-fields in
    let f = c.at.result.now in
    let e = c.in_err-minutes.field-0.0 in
    let why = answer-err (first_failing_lem (count_tests L.fastest L.slowest f)) (magnitude f) e
    (sym (rw c.from.ensures at c.in_err-minutes.ensures)) in
    exits c.from_residual-in_err-minutes.result e c.from_residual-in_err-minutes.ensures.1
    ∙ sym (rw (reaction-minutes c.args.defined.now.network.now (fields c.args.line.now) (two d) e
    (rw (c.at.ensures.is, line_is d) at why)))

pub returns-in_err-letter : goal.returns-in_err-letter
returns-in_err-letter c =
    let d = goal.at.returns-in_err-letter c in
    let f = c.at-2.result.now in
    let none = exits-none c.from_residual-in_err-letter.result c.in_err-letter.field-0.0 C.IllFormedName
    c.one_letter.result c.from_residual-in_err-letter.ensures.1 c.in_err-letter.ensures.value in
    let ill = then_some_none (is_one_letter_lem f) (get_or f 0 0) (sym c.one_letter.ensures ∙ none.0) in
    none.1 ∙ sym (rw (reaction_ill c.args.defined.now.network.now (fields c.args.line.now) (two d.In_ok-fields)
    (minutes d.In_ok-minutes).0 (rw (c.at-2.ensures.is, line_is d.In_ok-fields) at ill)))

pub returns-in_err-signal : goal.returns-in_err-signal
returns-in_err-signal c =
    let Γ = c.args.defined.now.network.now in
    let d = goal.at.returns-in_err-signal c in
    let nothing = exits_without c.from_residual-in_err-signal.result c.in_err-signal.field-0.0 C.Undefined
    (place_of Γ.signals Γ.letters c.in_ok-letter.letter) c.from_residual-in_err-signal.ensures.1
    (rw c.place_of.ensures at c.in_err-signal.ensures.value) in
    nothing.1 ∙ sym (rw (reaction-unknown Γ (fields c.args.line.now) (two d.In_ok-fields)
    (minutes d.In_ok-minutes).0 (letter d.In_ok-letter).0 (rw (letter d.In_ok-letter).1 nothing.0)))

pub is_stated-requires : goal.is_stated-requires
is_stated-requires c =
    let Γ = c.args.defined.now.network.now in
    let f = field 0 (fields c.args.line.now) in
    let d = (goal.at.is_stated-requires c).In_ok-signal in
    omega (arith, signal-below Γ (get_or f 0 0) c.in_ok-signal.signal (known d), c.args.defined.now.names.few_signals)

pub returns-then-is_stated : goal.returns-then-is_stated
returns-then-is_stated c =
    let d = goal.at.returns-then-is_stated c in
    sym (rw (reaction-twice c.args.defined.now.network.now (fields c.args.line.now) (two d.In_ok-fields)
    (minutes d.In_ok-minutes).0 (letter d.In_ok-letter).0 c.in_ok-signal.signal (known d.In_ok-signal)
    (ltb-true 0 _ (sym c.is_stated.ensures ∙ c.if-is_stated.true))))

pub returns : goal.returns
returns c =
    let d = goal.at.returns c in
    rw (
      reaction-passes c.args.defined.now.network.now (fields c.args.line.now) (two d.In_ok-fields)
          (minutes d.In_ok-minutes).0 (letter d.In_ok-letter).0 c.in_ok-signal.signal (known d.In_ok-signal)
          (ltb-false 0 _ (sym c.is_stated.ensures ∙ c.if-is_stated.false)),
      known d.In_ok-signal,
      (minutes d.In_ok-minutes).1,
    )
