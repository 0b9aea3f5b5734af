-- `canonical::push_rules` meets its contract. The invariant: behind the section's first line, the lines of those that
-- are passed are written. They are the upper bounds that remain, no more than 64, and each is proper (`Remaining`).
-- Assumes nothing.
use lib.ListN.{length, get_or}
use Rattle.page.proofs.Pushing.{Pushing}
use Rattle.network.specs.Build.{no_constraint}
use Rattle.layout.specs.Layout.{rule_line}
use Rattle.canonical.specs.House.{as_rule}
use Rattle.layout.specs.Most.{most_rule}
use Rattle.canonical.proofs.push_rules.Given as goal

abbrev pub invariant-loop-upper : goal.invariant-loop-upper
invariant-loop-upper l =
    let Γ = l.accepted.formed.network in
    Pushing most_rule (λ k. rule_line (as_rule l.accepted.sheet.now Γ (get_or l.uppers k no_constraint)))
    (length l.uppers) l.initial.page l.upper-index l.page
