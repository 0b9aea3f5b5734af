-- `passes_after` meets its contract: each test that it goes past is a premise of the law. Assumes nothing.
use Rattle.leap.proofs.Tables.{far_whole}
use Rattle.leap.proofs.Passing.{passing-of}
use Rattle.leap.proofs.pace.passes_after.Goals as goal

pub returns : goal.returns
returns c =
    let upper = c.args.upper.now in
    let most = c.at_most.ensures c.if-not-at_most.false in
    let least = c.at_least.ensures c.if-not-at_least.false in
    let high = far_whole c.above.ensures c.in_ok-high.ensures in
    let low = far_whole c.above-2.ensures c.in_ok-low.ensures in
    let q = c.in_ok-q.ensures in (
      c.if-left-r.false,
      rw c.rounds.ensures
          (passing-of upper.compiled.now.frame.formed.events _ _ _ _ _ _ _ _ upper.times.1 c.requires
          most least high low q.2 q.0),
    )
