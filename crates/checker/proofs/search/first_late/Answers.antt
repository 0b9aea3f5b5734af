use mathlib.Core.Path.{◌≡◌}
use native.Mathlib.Omega.{arith}
use Rattle.prelude.specs.Options.{option_of}
use Rattle.checker.specs.Verdict.{late_in}
use Rattle.checker.proofs.Seeking.{row_none, row_some}
use Rattle.checker.proofs.search.first_late.Goals.{After-first_late}
use Rattle.checker.proofs.search.first_late.Goals as goal

-- the search in one scenario is that of the strategy's
searched : (d : After-first_late) → let self = d.args.strategy.now in
    d.first_late.result ≡ option_of (late_in self.formed.now.network self.table.now d.loop-s.s)
searched d = rw (d.of.ensures.0, d.of.ensures.1) at d.first_late.ensures

pub loop-s-preserved : goal.loop-s-preserved
loop-s-preserved c =
    let d = (goal.at.loop-s-preserved c).After-first_late in
    row_none c.loop-s.invariant (omega arith) (searched d) c.in_default.is

pub returns-in-Some : goal.returns-in-Some
returns-in-Some c =
    let d = (goal.at.returns-in-Some c).After-first_late in
    row_some c.loop-s.invariant (omega arith) (searched d) _ c.in-Some.is
