-- `faster_hold` meets its contract: at the lowest level by the table that is there, at another by one that is made.
-- Assumes nothing.
use Rattle.std.proofs.Common.{◌≤◌, arith}
use Rattle.leap.proofs.Tested.{faster-lowest, faster_level}
use Rattle.leap.proofs.test.Guess.faster_hold.Goals as goal

pub returns-then-l-eq0 : goal.returns-then-l-eq0
returns-then-l-eq0 c =
    let self = c.args.self.now in
    let few = self.compiled.now.frame.formed.events in
    let low : c.from.result ≤ 0 = omega (arith, c.from.ensures, c.if-l-eq0.true) in
    λ e. rw c.if-l-eq0.true (faster-lowest few self.times.1 c.requires.1 low (c.between.ensures e))

pub returns : goal.returns
returns c =
    let self = c.args.self.now in
    let few = self.compiled.now.frame.formed.events in
    λ e. faster_level few self.times.1 c.above.ensures (omega (arith, c.from.ensures)) (c.at_level.ensures e)
