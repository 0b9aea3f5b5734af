-- `opening::write_listing` meets its contract: where the table is handed in rightly, the writer writes or has no room.
-- Assumes nothing.
use Rattle.opening.proofs.Prologue.{handed_on, right}
use Rattle.opening.proofs.Leaves.{listing-refused, listing-written}
use Rattle.opening.proofs.Means.{list_means}
use Rattle.opening.proofs.write_listing.Goals as goal

pub write-requires : goal.write-requires
write-requires c = (right _ _ _ c.in_ok-accepted.ensures.1).1

pub returns-in_err-accepted : goal.returns-in_err-accepted
returns-in_err-accepted c =
    list_means _ _ _ _ _ (rw (handed_on c.from_residual.result _ c.from_residual.ensures.1)
    (listing-refused _ _ _ _ c.in_err-accepted.ensures))

pub returns : goal.returns
returns c =
    let read = c.in_ok-accepted.ensures in
    list_means _ _ _ _ _ (rw (c.ok_or.ensures.value, c.without_line.ensures)
    (listing-written _ _ _ _ read.1 _ _ (rw read.0 at c.write.ensures)))
