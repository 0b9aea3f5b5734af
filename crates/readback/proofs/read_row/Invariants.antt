-- `readback::read_row` meets its contract: the texts are read one by one, each from behind the comma that ends the
-- field before it. The invariant, `Row_reading`: the texts before this one are minutes and stand in their cells, and
-- `at` is the end of the field before this text. Assumes nothing.
use Rattle.readback.proofs.Fielding.{Row_reading}
use Rattle.readback.proofs.read_row.Given as goal

abbrev pub invariant-loop-cell : goal.invariant-loop-cell
invariant-loop-cell l = Row_reading l.line l.initial.row l.row l.at l.cell-index
