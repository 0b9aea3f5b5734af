-- `far` meets its contract: rounds may go from a table that is placed, and p of them are made, or one stops them.
-- Assumes nothing.
use Rattle.leap.proofs.Tables.{far_or_none}
use Rattle.leap.proofs.test.Guess.far.Goals as goal

pub returns : goal.returns
returns c =
    let few = c.args.self.now.compiled.now.frame.formed.events in
    far_or_none _ c.advance.result few c.in_ok-moved.ensures c.advance.ensures
