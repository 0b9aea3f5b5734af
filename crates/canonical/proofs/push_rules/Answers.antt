use mathlib.Core.Path.{◌∙◌}
use native.Mathlib.Omega.{arith}
use lib.ListN.{length, get_or}
use Rattle.page.proofs.Pushing.{pushing-next, pushing-all}
use Rattle.network.specs.Build.{no_constraint}
use Rattle.layout.specs.Layout.{rule_line}
use Rattle.canonical.specs.House.{as_rule}
use Rattle.layout.proofs.Pushed.{section_pushed}
use Rattle.canonical.proofs.Remaining.{remaining-few, remaining-proper-at, remaining-lines}
use Rattle.canonical.proofs.push_rules.Goals as goal

pub overflow_cast-uppers : goal.overflow_cast-uppers
overflow_cast-uppers c =
    let formed = c.args.accepted.now.formed in
    let are = c.as_slice-uppers.ensures ∙ c.requires.0 in
    omega (arith, remaining-few formed.network are formed.well_formed)

pub push_rule-requires : goal.push_rule-requires
push_rule-requires c =
    let formed = c.args.accepted.now.formed in
    let Γ = formed.network in
    let are = c.as_slice-uppers.ensures ∙ c.requires.0 in
    let few = remaining-few Γ are formed.well_formed in (
      remaining-proper-at Γ are formed.well_formed c.loop-upper.upper-index c.loop-upper-test.true,
      omega arith,
    )

pub loop-upper-preserved : goal.loop-upper-preserved
loop-upper-preserved c =
    pushing-next c.loop-upper.invariant (omega arith) c.push_rule.ensures (omega arith)

pub returns : goal.returns
returns c =
    let sheet = c.args.accepted.now.sheet.now in
    let formed = c.args.accepted.now.formed in
    let Γ = formed.network in
    let us = c.as_slice-uppers.result.now in
    let are = c.as_slice-uppers.ensures ∙ c.requires.0 in
    let few = remaining-few Γ are formed.well_formed in
    section_pushed "rules" _ (length us) (λ k. rule_line (as_rule sheet Γ (get_or us k no_constraint)))
    (remaining-lines Γ are sheet)
    c.push_count.ensures
    (pushing-all c.loop-upper.invariant (omega arith))
    (omega arith)
