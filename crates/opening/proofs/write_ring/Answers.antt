-- `opening::write_ring` meets its contract: the line, then what the writer did. Assumes nothing.
use Rattle.opening.proofs.Prologue.{handed_on}
use Rattle.opening.proofs.Leaves.{ring_refused, ring-written}
use Rattle.opening.proofs.Means.{ring_means}
use Rattle.opening.proofs.write_ring.Goals as goal

pub returns-in_err-ring : goal.returns-in_err-ring
returns-in_err-ring c =
    ring_means _ _ _ _ (rw (handed_on c.from_residual.result _ c.from_residual.ensures.1)
    (ring_refused _ _ _ c.in_err-ring.ensures))

pub returns : goal.returns
returns c =
    ring_means _ _ _ _ (rw (c.ok_or.ensures.value, c.without_line.ensures)
    (ring-written _ _ _ _ c.in_ok-ring.ensures _ _ c.write.ensures))
