use mathlib.Core.Path.{◌≡◌, sym, ◌∙◌}
use Prim.Native.Nat.{◌+◌, ◌-◌, ◌*◌, ◌^◌, ◌≤◌, ◌<◌}
use native.Mathlib.Omega.{arith}
use Rattle.std.proofs.lemmas.Result.{err_from_is_err_and}
use lib.ListN.{length}
use Rattle.listing.proofs.Truths.{few-scenarios}
use Rattle.readback.proofs.Optional.{ok_or_err, ok_or_ok}
use Rattle.readback.proofs.Tables.{cells-room, cells_count, RowAt, row_at, rows_next, rows-fault, rows_all}
use Rattle.readback.proofs.Rows.read_cells.Goals.{After-until, In-loop-s}
use Rattle.readback.proofs.Rows.read_cells.Goals as goal

-- there is a row left
more : (d : In-loop-s) → d.loop-s.s < 2 ^ d.args.self.now.formed.now.network.signals
more d = omega (arith, d.loop-s-test.true, d.scenario_count-s-end.ensures)

-- and room for its cells, as many as there are events
room : (d : In-loop-s) → let n = d.args.self.now.formed.now.network.events in
    d.loop-s.s * n + n ≤ length d.loop-s.times
room d =
    let network = d.args.self.now.formed.now.network in
    let known = d.args.self.now.formed.now.well_formed in
    omega (
      arith,
      cells-room network.signals network.events known.signals known.events d.loop-s.s (more d),
      d.loop-s.invariant.sized,
    )

many : (d : In-loop-s) → let n = d.args.self.now.formed.now.network.events in
    d.loop-s.s * n + n - d.loop-s.s * n ≡ n
many d = omega arith

-- the row up to the end that was found
row : (d : After-until) → let network = d.args.self.now.formed.now.network in
    RowAt d.args.self.now.printed.now d.args.self.now.first network.events d.loop-s.s d.loop-s.at d.until.result
row d = row_at d.loop-s.invariant d.requires.0 (more (goal.at.After-until d).In-loop-s) _ d.until.ensures

pub overflow_add-end : goal.overflow_add-end
overflow_add-end c = omega (arith, (row (goal.at.overflow_add-end c).After-until).inside)

pub slice_bounds-row-end : goal.slice_bounds-row-end
slice_bounds-row-end c = omega (arith, room (goal.at.slice_bounds-row-end c).In-loop-s)

pub slice_bounds-read_row-end : goal.slice_bounds-read_row-end
slice_bounds-read_row-end c = omega (arith, (row (goal.at.slice_bounds-read_row-end c).After-until).inside)

pub read_row-requires : goal.read_row-requires
read_row-requires c =
    let d = goal.at.read_row-requires c in
    let line = row d.After-until in
    let size = cells_count c.loop-s.invariant (more d.In-loop-s) (room d.In-loop-s) in
    rw (line.line, many d.In-loop-s) (omega (arith, line.count, size))

pub line_number-requires : goal.line_number-requires
line_number-requires c =
    let known = c.args.self.now.formed.now.well_formed in
    let few = few-scenarios c.args.self.now.formed.now.network.signals known.signals in
    omega (arith, more (goal.at.line_number-requires c).In-loop-s, few)

pub returns-in_err-ok_or : goal.returns-in_err-ok_or
returns-in_err-ok_or c =
    let d = goal.at.returns-in_err-ok_or c in
    let few = many d.In-loop-s in
    let read = ok_or_err _ _ _ (sym c.ok_or.ensures.value ∙ c.in_err-ok_or.was) in
    let fault = rows-fault c.loop-s.invariant (more d.In-loop-s) (room d.In-loop-s)
    (rw ((row d.After-until).line, few) at c.read_row.ensures) read.0 in
    let p = err_from_is_err_and c.from_residual.result c.from_residual.ensures.1 in
    rw (p.1, p.2, read.1, c.line_number.ensures, few) fault

pub loop-s-preserved : goal.loop-s-preserved
loop-s-preserved c =
    let d = goal.at.loop-s-preserved c in
    let few = many d.In-loop-s in
    let line = row d.After-until in
    let read = ok_or_ok _ _ _ (sym c.ok_or.ensures.value ∙ c.in_ok-ok_or.was) in
    rw few (rows_next c.loop-s.invariant (more d.In-loop-s) (room d.In-loop-s)
    (rw (line.line, few) at c.read_row.ensures) read _ line.place line.inside)

pub returns : goal.returns
returns c = rows_all c.loop-s.invariant (omega (arith, c.loop-s-test.false, c.scenario_count-s-end.ensures))
