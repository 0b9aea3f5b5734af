use Rattle.moves.proofs.Levels.{next_is}
use Rattle.moves.proofs.next_level.Goals as goal

pub returns : goal.returns
returns c = rw c.least_above.ensures (next_is c.args.l c.args.d.now)
