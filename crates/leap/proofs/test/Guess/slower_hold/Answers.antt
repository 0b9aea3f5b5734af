-- `slower_hold` meets its contract: at the lowest level there is nothing to show, at another a table is made. Assumes
-- nothing.
use Rattle.leap.proofs.Levels.{slower-lowest}
use Rattle.leap.proofs.Tested.{slower_level}
use Rattle.leap.proofs.test.Guess.slower_hold.Goals as goal

pub returns-then-l-eq0 : goal.returns-then-l-eq0
returns-then-l-eq0 c =
    let self = c.args.self.now in
    let few = self.compiled.now.frame.formed.events in
    λ _. rw c.if-l-eq0.true (slower-lowest self.compiled.now.frame.network few self.p self.j self.t.now self.d.now)

pub returns : goal.returns
returns c =
    let few = c.args.self.now.compiled.now.frame.formed.events in
    λ e. slower_level few c.args.self.now.times.1 c.up_to.ensures c.reached.ensures (c.at_level.ensures e)
