-- The fields are counted, and then read each by itself. Assumes nothing.
use mathlib.Core.Path.{◌≡◌, sym, ◌∙◌}
use lib.ListN.{length}
use Rattle.text.specs.Lines.{fields}
use Rattle.refusal.specs.declared.Cause.TheVariants as C
use Rattle.line.proofs.Refusals.{exits-none}
use Rattle.line.proofs.TwoCounts.{two_counts-fields, two_counts-both}
use Rattle.line.proofs.two_counts.two_counts_fields.Goals.{In_ok-fields}
use Rattle.line.proofs.two_counts.two_counts_fields.Goals as goal

-- the fields are those of the line, and two
line_is : (d : In_ok-fields) → d.in_ok-fields.fields.line.now ≡ d.args.line.now
line_is d = rw d.in_ok-fields.ensures.ok_part at d.of.ensures

two : (d : In_ok-fields) → length (fields d.args.line.now) ≡ 2
two d = rw (line_is d) at d.in_ok-fields.fields.cut.counted

pub returns-in_err-fields : goal.returns-in_err-fields
returns-in_err-fields c =
    let args = c.args in
    let none = exits-none c.from_residual.result c.in_err-fields.field-0.0 C.WrongFields c.of.result
    c.from_residual.ensures.1 c.in_err-fields.ensures.value in
    none.1 ∙ sym (rw (two_counts-fields args.first args.second (fields args.line.now) (rw none.0 at c.of.ensures)))

pub returns : goal.returns
returns c =
    let args = c.args in
    let d = (goal.at.returns c).In_ok-fields in
    rw (
      ← two_counts-both args.first args.second (fields args.line.now) (two d),
      ← line_is d,
      ← c.at.ensures.is,
      ← c.at-2.ensures.is,
      ← c.from.ensures,
      ← c.from-2.ensures,
      ← c.count_of.ensures,
      ← c.count_of-2.ensures,
    )
    c.both.ensures
