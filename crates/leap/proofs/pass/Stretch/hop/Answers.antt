-- `hop` meets its contract: where a test fails nothing is altered; where none fails the placed table is where all
-- rounds lead, and p more lead from it to what was made of it. Assumes nothing.
use Rattle.std.proofs.Common.{refl}
use Rattle.leap.proofs.Tables.{far-whole_of}
use Rattle.leap.proofs.Hop.{advanced_hop}
use Rattle.leap.proofs.pass.Stretch.hop.Goals as goal

pub at_most-requires : goal.at_most-requires
at_most-requires c =
    let self = c.args.self.now in
    let few = self.compiled.now.frame.formed.events in
    (self.led, far-whole_of few c.above.ensures c.in_ok-base.ensures c.in_ok-reached.ensures)

pub at_least-requires : goal.at_least-requires
at_least-requires c =
    let few = c.args.self.now.compiled.now.frame.formed.events in
    far-whole_of few c.above.ensures c.in_ok-base.ensures c.in_ok-reached.ensures

pub returns : goal.returns
returns c =
    let self = c.args.self.now in
    let pre = c.requires in
    let most = c.at_most.ensures c.if-not-at_most.false in
    let least = c.at_least.ensures c.if-not-at_least.false in (
      refl,
      refl,
      (
        c.if-left-made.false,
        rw c.rounds-made.ensures
            (advanced_hop self.rounds _ self.compiled.now.frame.formed.events pre.0 pre.3 c.above.ensures
            c.in_ok-base.ensures most least),
      ),
    )
