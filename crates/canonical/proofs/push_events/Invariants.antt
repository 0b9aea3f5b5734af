-- `canonical::push_events` meets its contract. The invariant: behind the section's first line, the lines of the
-- events below u are written. A name is of at most 8 bytes, so that there is room for all. Assumes nothing.
use mathlib.Core.List.{[]}
use Rattle.text.specs.Lines.{line}
use Rattle.page.proofs.Pushing.{Pushing}
use Rattle.network.specs.Build.{name_of_lem}
use Rattle.canonical.proofs.push_events.Given as goal

abbrev pub invariant-loop-u : goal.invariant-loop-u
invariant-loop-u l =
    let Γ = l.accepted.formed.network in
    Pushing 9 (λ i. line (name_of_lem Γ l.accepted.sheet.now i) []) Γ.events l.initial.page l.u l.page
