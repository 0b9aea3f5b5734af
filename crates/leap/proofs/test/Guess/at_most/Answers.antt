use Rattle.std.proofs.Common.{arith}
use Rattle.leap.proofs.Climbed.{climbed_less, climbed_next}
use Rattle.leap.proofs.Tested.{at-most_of}
use Rattle.leap.proofs.test.Guess.at_most.Goals as goal

pub loop-next-smaller : goal.loop-next-smaller
loop-next-smaller c = climbed_less c.args.self.now.times.1 c.in-Some.ensures

pub loop-next-preserved : goal.loop-next-preserved
loop-next-preserved c =
    let self = c.args.self.now in
    climbed_next self.times.1 c.in-Some.ensures self.compiled.now.frame.formed.events c.loop-next.invariant
    (c.faster_hold.ensures c.if-not-faster_hold.false)

pub returns : goal.returns
returns c =
    let self = c.args.self.now in
    let few = self.compiled.now.frame.formed.events in
    λ e. at-most_of few self.times.1 c.in_default.ensures c.loop-next.invariant.lower c.requires.0
    (omega (arith, c.from.ensures)) (c.between.ensures e)
