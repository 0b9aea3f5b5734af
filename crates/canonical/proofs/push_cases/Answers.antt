use native.Mathlib.Omega.{arith}
use Rattle.page.proofs.Pushing.{pushing-next, pushing-all}
use Rattle.layout.specs.Most.{most_case}
use Rattle.canonical.proofs.CaseLines.{labels_pushed}
use Rattle.canonical.proofs.Labelled.{labelled-few}
use Rattle.canonical.proofs.push_cases.Goals as goal

pub overflow_cast-labelled : goal.overflow_cast-labelled
overflow_cast-labelled c =
    let formed = c.args.accepted.now.formed in
    omega (arith, c.labelled_count-labelled.ensures, labelled-few formed.network, formed.well_formed.events)

pub loop-u-preserved : goal.loop-u-preserved
loop-u-preserved c =
    pushing-next c.loop-u.invariant {j = most_case} (omega arith) c.push_case.ensures (omega arith)

pub returns : goal.returns
returns c =
    let accepted = c.args.accepted.now in
    let labelled = c.labelled_count-labelled in
    labels_pushed accepted.sheet.now accepted.formed.network labelled.result labelled.ensures c.if-labelled-eq0.false
    c.push_count.ensures (pushing-all c.loop-u.invariant (omega arith))
    (omega (arith, accepted.formed.well_formed.events))
