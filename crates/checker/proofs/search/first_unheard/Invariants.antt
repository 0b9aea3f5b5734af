-- `first_unheard` meets its contract: an event's test is the definition's, so the loops are its searches, by s, then r,
-- then event. The invariant of each loop: its search has come to its index, and nothing was found. Assumes nothing.
use Rattle.prelude.specs.Search.{unless}
use Rattle.network.specs.Build.{scenarios}
use Rattle.checker.specs.Verdict.{is_alike, unheard_in, unheard_from}
use Rattle.checker.specs.declared.Breach.TheVariants.{Unheard}
use Rattle.checker.proofs.Seeking.{Seeking}
use Rattle.checker.proofs.search.first_unheard.Given as goal

abbrev pub invariant-loop-u : goal.invariant-loop-u
invariant-loop-u l =
    let Γ = l.strategy.formed.now.network in
    Seeking (λ v. unless (is_alike Γ l.strategy.table.now l.s l.r v) (Unheard l.s l.r v)) Γ.events l.u l.found

abbrev pub invariant-loop-r : goal.invariant-loop-r
invariant-loop-r l =
    let Γ = l.strategy.formed.now.network in
    Seeking (unheard_in Γ l.strategy.table.now l.s) (scenarios Γ) l.r l.found

abbrev pub invariant-unheard : goal.invariant-unheard
invariant-unheard l =
    let Γ = l.strategy.formed.now.network in
    Seeking (unheard_from Γ l.strategy.table.now) (scenarios Γ) l.s l.found
