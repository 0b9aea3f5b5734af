-- `canonical::push_reactions` meets its contract: nothing where none is listed and no label follows.
-- Otherwise the invariant: behind the section's first line, the lines of the signals below p are written. Assumes
-- nothing.
use Rattle.page.proofs.Pushing.{Pushing}
use Rattle.layout.specs.Layout.{reaction_line}
use Rattle.canonical.specs.Listed.{slow_at}
use Rattle.layout.specs.Most.{most_reaction}
use Rattle.canonical.proofs.Gathered.{line_by}
use Rattle.canonical.proofs.push_reactions.Given as goal

abbrev pub invariant-loop-p : goal.invariant-loop-p
invariant-loop-p l =
    let Γ = l.formed.network in
    Pushing most_reaction (λ i. line_by reaction_line (slow_at Γ i)) Γ.signals l.initial.page l.p l.page
