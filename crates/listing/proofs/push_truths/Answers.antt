use native.Mathlib.Omega.{arith}
use Rattle.page.proofs.Pushed.{pushed_as}
use Rattle.page.proofs.Pushing.{pushing-next, pushing-all}
use Rattle.listing.proofs.Truths.{scenario_text-some}
use Rattle.listing.proofs.push_truths.Goals as goal

pub loop-p-preserved : goal.loop-p-preserved
loop-p-preserved g c =
    pushing-next c.loop-p.invariant (omega arith) (rw c.mark_of.ensures at c.push-in-loop-p.ensures) (omega arith)

pub returns : goal.returns
returns g c =
    pushed_as (scenario_text-some c.args.s c.args.signals c.if-signals-eq0.false)
    (pushing-all c.loop-p.invariant (omega arith)) (omega arith)
