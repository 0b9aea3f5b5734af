-- `first_broken` meets its contract: the loop is the definition's search, and nothing was found. Assumes nothing.
use Rattle.prelude.proofs.Search.{Searching}
use Rattle.network.specs.Build.{scenarios}
use Rattle.checker.specs.Verdict.{broken_in}
use Rattle.checker.proofs.search.first_broken.Given as goal

abbrev pub invariant-loop-s : goal.invariant-loop-s
invariant-loop-s l =
    let Γ = l.strategy.formed.now.network in
    Searching (broken_in Γ l.strategy.table.now) (scenarios Γ) l.s
