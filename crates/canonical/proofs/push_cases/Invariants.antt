-- `canonical::push_cases` meets its contract: nothing where none is listed. Otherwise the invariant: behind the
-- section's first line, the lines of the events below u are written. Assumes nothing.
use Rattle.page.proofs.Pushing.{Pushing}
use Rattle.canonical.specs.Listed.{labelled_at}
use Rattle.layout.specs.Most.{most_case}
use Rattle.canonical.proofs.Gathered.{line_by}
use Rattle.canonical.proofs.CaseLines.{line_of}
use Rattle.canonical.proofs.push_cases.Given as goal

abbrev pub invariant-loop-u : goal.invariant-loop-u
invariant-loop-u l =
    let Γ = l.accepted.formed.network in
    Pushing most_case (λ i. line_by (line_of l.accepted.sheet.now Γ) (labelled_at Γ i)) Γ.events l.initial.page l.u
    l.page
