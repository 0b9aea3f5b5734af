use mathlib.Core.Path.{sym, ◌∙◌}
use Prim.Native.Nat.{suc, ◌<◌}
use native.Mathlib.Omega.{arith}
use lib.ListN.{length, length-set}
use Rattle.text.specs.Lines.{fields}
use Rattle.readback.proofs.Fielding.{TextAt, reached-first, comma_lt, text_at}
use Rattle.readback.proofs.Fielding.{row-start, row_next, row-fault, row-all}
use Rattle.readback.proofs.read_row.Goals.{After-until, In-loop-cell}
use Rattle.readback.proofs.read_row.Goals as goal

-- there is a text left, so that a comma stands here
more : (d : In-loop-cell) → suc d.loop-cell.cell-index < length (fields d.args.line.now)
more d = omega (arith, d.requires, d.loop-cell-test.true)

comma : (d : In-loop-cell) → d.loop-cell.at < length d.args.line.now
comma d = comma_lt d.loop-cell.invariant.reached (more d)

-- the text up to the end that was found
text : (d : After-until) → TextAt d.args.line.now d.loop-cell.cell-index d.loop-cell.at d.until.result
text d = text_at d.loop-cell.invariant.reached (more (goal.at.After-until d).In-loop-cell) _ d.until.ensures

pub loop-cell-init : goal.loop-cell-init
loop-cell-init c = row-start _ _ _ (reached-first _ _ c.until-at.ensures)

pub overflow_add-start : goal.overflow_add-start
overflow_add-start c = omega (arith, comma (goal.at.overflow_add-start c).In-loop-cell)

pub slice_bounds-until-count : goal.slice_bounds-until-count
slice_bounds-until-count c = omega (arith, comma (goal.at.slice_bounds-until-count c).In-loop-cell)

pub slice_bounds-until-start : goal.slice_bounds-until-start
slice_bounds-until-start c = omega (arith, comma (goal.at.slice_bounds-until-start c).In-loop-cell)

pub overflow_add-end : goal.overflow_add-end
overflow_add-end c = omega (arith, (text (goal.at.overflow_add-end c).After-until).inside)

pub slice_bounds-minute_in-end : goal.slice_bounds-minute_in-end
slice_bounds-minute_in-end c = omega (arith, (text (goal.at.slice_bounds-minute_in-end c).After-until).inside)

pub returns-in_err-cell : goal.returns-in_err-cell
returns-in_err-cell c =
    let d = (goal.at.returns-in_err-cell c).After-until in
    rw c.from_residual.ensures
    (row-fault c.loop-cell.invariant (omega arith) (sym (rw (text d).text at c.minute_in.ensures) ∙ c.in_err-cell.was)
    (length-set c.loop-cell.row _ _))

pub loop-cell-preserved : goal.loop-cell-preserved
loop-cell-preserved c =
    let d = (goal.at.loop-cell-preserved c).After-until in
    row_next c.loop-cell.invariant (omega arith) _ (sym (rw (text d).text at c.minute_in.ensures) ∙ c.in_ok-cell.was) _
    (text d).next

pub returns : goal.returns
returns c = row-all c.loop-cell.invariant (omega arith)
