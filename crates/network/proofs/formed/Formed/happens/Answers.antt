-- `happens` meets its contract: every scenario is one of 16, and an event's label, of four propositions, says where it
-- happens. Assumes nothing.
use Rattle.network.specs.Happens as E
use Rattle.network.proofs.Reach.{scenario_lt, event-letters}
use Rattle.network.proofs.formed.Formed.happens.Goals as goal

pub satisfies-requires : goal.satisfies-requires
satisfies-requires c =
    let W = c.args.self.now.well_formed in
    (scenario_lt W c.args.s c.requires.0, event-letters W c.args.u)

pub returns : goal.returns
unfolding E.happens
returns c = c.satisfies.ensures
