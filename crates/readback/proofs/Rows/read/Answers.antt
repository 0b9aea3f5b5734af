-- `readback::Rows::read` meets its contract: the first line with a text that is no minute, then the room, then the
-- cells. The times have memory of their own, which holds the cells of any sheet, so that the table is altered only
-- where nothing is wrong. Assumes nothing.
use mathlib.Core.Path.{sym, ◌∙◌}
use Prim.Native.Nat.{◌*◌, ◌^◌, ◌≤◌}
use native.Mathlib.Omega.{arith}
use Rattle.std.proofs.lemmas.Result.{err_from_is_err_and}
use lib.ListN.{length}
use lib.Seq.{length-take-le}
use Rattle.network.specs.Limits as L
use Rattle.readback.proofs.Tables.{all_room}
use Rattle.readback.proofs.Answered.{times-fault, times-short, times-all}
use Rattle.readback.proofs.Rows.read.Goals.{After-cell_count-cells}
use Rattle.readback.proofs.Rows.read.Goals as goal

-- there is room for the cells in the memory of the times
room : (d : After-cell_count-cells) → let network = d.args.self.now.formed.now.network in
    network.events * 2 ^ network.signals ≤ L.cells
room d =
    let known = d.args.self.now.formed.now.well_formed in
    all_room d.args.self.now.formed.now.network.signals d.args.self.now.formed.now.network.events
    known.signals known.events

inside : (d : After-cell_count-cells) → d.cell_count-cells.result ≤ length d.read_cells.new.times
inside d = omega (arith, room d, d.cell_count-cells.ensures, d.read_cells.ensures.sized)

pub returns-in_err-read_cells : goal.returns-in_err-read_cells
returns-in_err-read_cells c =
    let p = err_from_is_err_and c.from_residual.result c.from_residual.ensures.1 in
    rw (p.1, p.2) (times-fault c.read_cells.ensures _ _ c.in_err-read_cells.was)

pub returns-then-table-cells : goal.returns-then-table-cells
returns-then-table-cells c =
    times-short c.read_cells.ensures _ c.in_ok-read_cells.was
    (omega (arith, c.if-table-cells.true, c.cell_count-cells.ensures))

pub slice_bounds-times-end : goal.slice_bounds-times-end
slice_bounds-times-end c = inside (goal.at.slice_bounds-times-end c).After-cell_count-cells

pub slice_bounds-overwrite-end-3 : goal.slice_bounds-overwrite-end-3
slice_bounds-overwrite-end-3 c =
    sym (length-take-le _ _ (inside (goal.at.slice_bounds-overwrite-end-3 c).After-cell_count-cells))

pub overwrite-requires : goal.overwrite-requires
overwrite-requires c =
    length-take-le _ _ (omega (arith, c.if-table-cells.false))
    ∙ sym (length-take-le _ _ (inside (goal.at.overwrite-requires c).After-cell_count-cells))

pub returns : goal.returns
returns c =
    let d = (goal.at.returns c).After-cell_count-cells in
    rw (c.overwrite.ensures, c.cell_count-cells.ensures)
    (times-all c.read_cells.ensures _ c.in_ok-read_cells.was (room d)
    (omega (arith, c.if-table-cells.false, c.cell_count-cells.ensures)))
