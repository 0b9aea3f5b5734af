use Rattle.leap.proofs.Tables.{advanced_join, advanced_round}
use Rattle.leap.proofs.test.advance.Goals as goal

pub loop-preserved : goal.loop-preserved
loop-preserved c = rw c.swap.ensures.x_after (advanced_join c.loop.invariant (advanced_round c.in-Rises.ensures))
