use native.Mathlib.Omega.{arith}
use Rattle.page.proofs.Pushed.{pushed_both}
use Rattle.page.proofs.Pushing.{pushing-next}
use Rattle.listing.proofs.push_times.Goals as goal

pub loop-time-preserved : goal.loop-time-preserved
loop-time-preserved g c =
    pushing-next c.loop-time.invariant (omega arith) (pushed_both c.push.ensures c.push_cell.ensures) (omega arith)
