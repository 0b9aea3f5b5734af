-- `first_late` meets its contract: the loop is the definition's search, and nothing was found. Assumes nothing.
use Rattle.prelude.proofs.Search.{Searching}
use Rattle.network.specs.Build.{scenarios}
use Rattle.checker.specs.Verdict.{late_in}
use Rattle.checker.proofs.search.first_late.Given as goal

abbrev pub invariant-loop-s : goal.invariant-loop-s
invariant-loop-s l =
    let Γ = l.strategy.formed.now.network in
    Searching (late_in Γ l.strategy.table.now) (scenarios Γ) l.s
