-- `advance` keeps what a stretch is: the round is one more, and the table that it made is the one that is reached.
-- Assumes nothing.
use Rattle.leap.proofs.Tables.{advanced_join, advanced_round}
use Rattle.leap.proofs.pass.Stretch.advance.Goals as goal

pub invariant_of-self : goal.invariant_of-self
invariant_of-self c =
    let self = c.args.self.now in
    record {
      started = self.started;
      led = rw c.swap.ensures.x_after (advanced_join self.led (advanced_round c.requires.1));
    }
