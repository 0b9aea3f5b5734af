-- The tests are tried in the order of `section_tests`. Assumes nothing.
use mathlib.Core.Path.{◌≡◌, sym, ◌∙◌, ap}
use mathlib.Core.Bool.{not}
use borrow.Author.Tests.{not-true, not-false}
use lib.ListN.{length}
use Rattle.prelude.specs.Bytes.{ascii, same}
use Rattle.text.specs.Lines.{fields}
use Rattle.refusal.specs.declared.Cause.TheVariants as C
use Rattle.line.specs.Words.{spelled}
use Rattle.line.proofs.Words.{is-word}
use Rattle.line.proofs.Refusals.{exits-none, word_count, word-other, word-passes}
use Rattle.line.proofs.heading.section_fields.Goals.{In_ok-fields}
use Rattle.line.proofs.heading.section_fields.Goals as goal

-- the fields are those of the line, and two
line_is : (d : In_ok-fields) → d.in_ok-fields.fields.line.now ≡ d.args.line.now
line_is d = rw d.in_ok-fields.ensures.ok_part at d.of.ensures

two : (d : In_ok-fields) → length (fields d.args.line.now) ≡ 2
two d = rw (line_is d) at d.in_ok-fields.fields.cut.counted

pub returns-in_err-fields : goal.returns-in_err-fields
returns-in_err-fields c =
    let args = c.args in
    let none = exits-none c.from_residual.result c.in_err-fields.field-0.0 C.WrongFields c.of.result
    c.from_residual.ensures.1 c.in_err-fields.ensures.value in
    let word = ascii (spelled args.word) in
    none.1 ∙ sym (rw (word_count word args.lo args.hi (fields args.line.now) (rw none.0 at c.of.ensures)))

pub returns-then-ne : goal.returns-then-ne
returns-then-ne c =
    let args = c.args in
    let d = (goal.at.returns-then-ne c).In_ok-fields in
    let f = c.at.result.now in
    let word = ascii (spelled args.word) in
    let differs = not-true (same f word)
    (ap not (sym (is-word f c.word_of.result c.word_of.ensures args.word)) ∙ sym c.ne.ensures ∙ c.if-ne.true) in
    sym (rw (word-other word args.lo args.hi (fields args.line.now) (rw (c.at.ensures.is, line_is d) at differs)))

pub returns : goal.returns
returns c =
    let args = c.args in
    let d = (goal.at.returns c).In_ok-fields in
    let f = c.at.result.now in
    let word = ascii (spelled args.word) in
    let equal = not-false (same f word)
    (ap not (sym (is-word f c.word_of.result c.word_of.ensures args.word)) ∙ sym c.ne.ensures ∙ c.if-ne.false) in
    rw (
      word-passes word args.lo args.hi (fields args.line.now) (two d)
          (rw (c.at.ensures.is, line_is d) at equal),
      ← line_is d,
      ← c.at-2.ensures.is,
    )
    c.count_of.ensures
