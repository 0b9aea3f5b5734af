-- The fields are those of the line without its line feed: five, of which the first is the word. Assumes nothing.
use mathlib.Core.Path.{◌≡◌, sym, ◌∙◌, ap₂}
use lib.ListN.{take}
use lib.Seq.{length-take-le}
use Rattle.prelude.specs.Bytes.{same}
use Rattle.prelude.proofs.Bytes.{equal_is}
use Rattle.text.specs.Lines.{line_feed, up_to}
use Rattle.text.proofs.Lines.{line_le, line-is}
use Rattle.conversion.proofs.AsMax.{is_fix-other, is_fix-five}
use Rattle.conversion.proofs.is_fix.Goals.{After-until}
use Rattle.conversion.proofs.is_fix.Goals as goal

-- the row that its fields are cut from
row : (d : After-until) → take d.until.result d.args.line.now ≡ up_to line_feed d.args.line.now
row d = line-is d.args.line.now d.until.result d.until.ensures

pub slice_bounds-row-end : goal.slice_bounds-row-end
slice_bounds-row-end c =
    sym (length-take-le c.until.result c.args.line.now (line_le c.args.line.now c.until.result c.until.ensures))

pub returns-in-Some : goal.returns-in-Some
returns-in-Some c =
    let d = (goal.at.returns-in-Some c).After-until in
    let fields = c.in-Some.fields in
    let line : fields.line.now ≡ up_to line_feed c.args.line.now = c.in-Some.ensures ∙ row d in
    c.eq.ensures ∙ equal_is c.at.result.now c.as_slice.result.now
    ∙ ap₂ same (rw line at c.at.ensures.is) c.as_slice.ensures
    ∙ sym (is_fix-five c.args.line.now (rw line at fields.cut.counted))

pub returns-in-None : goal.returns-in-None
returns-in-None c =
    let d = (goal.at.returns-in-None c).After-until in
    sym (is_fix-other c.args.line.now (rw (row d) at (rw c.in-None.is at c.of.ensures)))
