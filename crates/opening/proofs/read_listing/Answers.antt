-- `opening::read_listing` meets its contract: the sheet, then what the reader of listings did. Assumes nothing.
use Rattle.opening.proofs.Prologue.{handed_on}
use Rattle.opening.specs.Prologue.{of_unread}
use Rattle.opening.proofs.Leaves.{mapped}
use Rattle.opening.proofs.ReaderLeaves.{back-refused, back_read}
use Rattle.opening.proofs.Means.{recover_means}
use Rattle.opening.proofs.read_listing.Goals as goal

pub returns-in_err-accepted : goal.returns-in_err-accepted
returns-in_err-accepted c =
    recover_means _ _ _ _ _ (rw (handed_on c.from_residual.result _ c.from_residual.ensures.1)
    (back-refused _ _ _ _ c.in_err-accepted.ensures))

pub returns : goal.returns
returns c =
    let read = c.in_ok-accepted.ensures in
    recover_means _ _ _ _ _ (rw (mapped of_unread c.read-2.result c.map_err.result c.map_err.ensures.cases)
    (back_read _ _ _ _ read.1 _ c.read-2.result (rw read.0 at c.read-2.ensures)))
