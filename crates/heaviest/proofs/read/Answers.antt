-- The length is tested first, then the first line, and then that no byte stands behind it. Assumes nothing.
use mathlib.Core.Path.{◌≡◌, sym, ◌∙◌, ap}
use native.Mathlib.Omega.{arith}
use Rattle.std.specs.Prelude.{Ok, Err}
use Rattle.line.proofs.Refusals.{exits}
use Rattle.sheet.specs.Reading.{on_line}
use Rattle.heaviest.proofs.ByLine.{first, First, first-known, read-long, read_first, read_more, read_all}
use Rattle.heaviest.proofs.read.Goals.{In_ok-asked}
use Rattle.heaviest.proofs.read.Goals as goal

-- what the first line was read as
reads : (d : In_ok-asked) → first d.args.line.now ≡ Ok d.in_ok-asked.asked
reads d = ap (on_line 1) (sym d.counts_line.ensures) ∙ sym d.in_ok-asked.ensures

known : (d : In_ok-asked) → First d.args.line.now d.in_ok-asked.asked
known d = first-known d.args.line.now d.in_ok-asked.asked (reads d)

pub returns-then-line-gt-LONGEST : goal.returns-then-line-gt-LONGEST
returns-then-line-gt-LONGEST c =
    read-long c.args.line.now c.if-line-gt-LONGEST.true ∙ ap Err (sym c.without_line.ensures)

pub returns-in_err-asked : goal.returns-in_err-asked
returns-in_err-asked c =
    let r = c.in_err-asked.field-0.0 in
    rw (exits c.from_residual.result r c.from_residual.ensures.1)
    (read_first c.args.line.now c.if-line-gt-LONGEST.false r
    (ap (on_line 1) (sym c.counts_line.ensures) ∙ sym c.in_err-asked.ensures))

pub overflow_add-asked : goal.overflow_add-asked
overflow_add-asked c =
    let d = (goal.at.overflow_add-asked c).In_ok-asked in
    omega (arith, (known d).inside, c.if-line-gt-LONGEST.false)

pub returns-then-asked-line : goal.returns-then-asked-line
returns-then-asked-line c =
    let d = (goal.at.returns-then-asked-line c).In_ok-asked in
    read_more c.args.line.now c.if-line-gt-LONGEST.false c.in_ok-asked.asked (reads d) c.if-asked-line.true
    ∙ ap Err (sym c.at.ensures)

pub overflow_cast-result : goal.overflow_cast-result
overflow_cast-result c = omega (arith, (known (goal.at.overflow_cast-result c).In_ok-asked).few)

pub invariant_of-result : goal.invariant_of-result
invariant_of-result c =
    let k = known (goal.at.invariant_of-result c).In_ok-asked in
    record { some = k.some; few = k.few; low = k.horizon }

pub returns : goal.returns
returns c =
    let d = (goal.at.returns c).In_ok-asked in
    read_all c.args.line.now c.if-line-gt-LONGEST.false c.in_ok-asked.asked (reads d)
    (omega (arith, c.if-asked-line.false))
