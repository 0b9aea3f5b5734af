-- `canonical::push_signals` meets its contract. The invariant: behind the section's first line, the lines of the
-- signals below p are written. The event that gives a signal has a name of at most 8 bytes, so that there is room for
-- all. Assumes nothing.
use Rattle.page.proofs.Pushing.{Pushing}
use Rattle.layout.specs.Layout.{signal_line}
use Rattle.canonical.specs.House.{signal_at}
use Rattle.canonical.proofs.push_signals.Given as goal

abbrev pub invariant-loop-p : goal.invariant-loop-p
invariant-loop-p l =
    let Γ = l.accepted.formed.network in
    Pushing 11 (λ i. signal_line (signal_at l.accepted.sheet.now Γ i)) Γ.signals l.initial.page l.p l.page
