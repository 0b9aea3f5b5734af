-- `advance` meets its contract: each turn makes a round that raises within the limits, so it leads on, and the two
-- tables change places. The invariant: so many rounds as turns lead from the table at entry to `here`. Assumes nothing.
use Rattle.leap.specs.Tables.{Advanced}
use Rattle.leap.proofs.test.advance.Given as goal

abbrev pub invariant-loop : goal.invariant-loop
invariant-loop l = Advanced l.compiled.frame.network l.counter l.from l.here
