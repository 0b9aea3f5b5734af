-- `opening::write_house` meets its contract: the sheet, then what the writer did. Assumes nothing.
use Rattle.opening.proofs.Prologue.{handed_on}
use Rattle.opening.proofs.Leaves.{house_refused, house-written}
use Rattle.opening.proofs.Means.{house_means}
use Rattle.opening.proofs.write_house.Goals as goal

pub returns-in_err-accepted : goal.returns-in_err-accepted
returns-in_err-accepted c =
    house_means _ _ _ _ (rw (handed_on c.from_residual.result _ c.from_residual.ensures.1)
    (house_refused _ _ _ c.in_err-accepted.ensures))

pub returns : goal.returns
returns c =
    let read = c.in_ok-accepted.ensures in
    house_means _ _ _ _ (rw (c.ok_or.ensures.value, c.without_line.ensures)
    (house-written _ _ _ read.1 _ _ (rw read.0 at c.write.ensures)))
