-- `readback::is_row` meets its contract: the count of commas, one fewer than the fields, decides first, and then the
-- first field, which is to be the mark. Assumes nothing.
use mathlib.Core.Path.{sym, ◌∙◌}
use native.Mathlib.Omega.{arith}
use lib.Seq.{length-take-le}
use Rattle.text.specs.Lines.{comma}
use Rattle.text.proofs.Lines.{up_to_le}
use Rattle.readback.proofs.Fielding.{fields_counted, first_field}
use Rattle.readback.proofs.Passes.{row_count, row_mark}
use Rattle.readback.proofs.is_row.Goals as goal

pub returns-then-comma_count-formed : goal.returns-then-comma_count-formed
returns-then-comma_count-formed c =
    let network = c.args.formed.now.network in
    let line = c.args.line.now in
    sym (row_count network.signals network.events c.args.s line
    (λ h. c.if-comma_count-formed.true (omega (arith, h, fields_counted line, c.comma_count.ensures))))

pub slice_bounds-is_mark-end : goal.slice_bounds-is_mark-end
slice_bounds-is_mark-end c = sym (length-take-le _ _ (omega (arith, c.until.ensures, up_to_le comma c.args.line.now)))

pub returns : goal.returns
returns c =
    let network = c.args.formed.now.network in
    let line = c.args.line.now in
    c.is_mark.ensures
    ∙ rw (first_field line c.until.result c.until.ensures)
    (sym (row_mark network.signals network.events c.args.s line
    (omega (arith, fields_counted line, c.comma_count.ensures, c.if-comma_count-formed.false))))
