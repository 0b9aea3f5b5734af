-- `readback::Rows::read_cells` meets its contract: the rows fit, so that the ends that are found are theirs, and the
-- first that has a text that is no minute ends the pass. The invariant, `Reading_rows`: the rows below s have minutes
-- only, which stand in their cells, and the row of s begins at `at`. Assumes nothing.
use Rattle.readback.proofs.Tables.{Reading_rows}
use Rattle.readback.proofs.Rows.read_cells.Given as goal

abbrev pub invariant-loop-s : goal.invariant-loop-s
invariant-loop-s l =
    let network = l.self.formed.now.network in
    Reading_rows l.self.printed.now l.self.first network.signals network.events l.times l.s l.at
