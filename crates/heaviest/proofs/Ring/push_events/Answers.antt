use native.Mathlib.Omega.{arith}
use mathlib.Core.List.{[]}
use Rattle.text.specs.Lines.{line}
use Rattle.prelude.proofs.Mapped.{map-tabulate}
use Rattle.page.proofs.Pushed.{pushed_both}
use Rattle.page.proofs.Pushing.{pushing-next, pushing-all}
use Rattle.heaviest.specs.RingText.{letter_name}
use Rattle.layout.proofs.Pushed.{section_pushed}
use Rattle.heaviest.proofs.Ring.push_events.Goals as goal

pub loop-u-preserved : goal.loop-u-preserved
loop-u-preserved c =
    pushing-next c.loop-u.invariant (omega arith) (pushed_both c.push.ensures c.push-in-loop-u.ensures) (omega arith)

pub returns : goal.returns
returns c =
    let n = c.args.self.now.events in
    section_pushed "events" _ n (λ u. line (letter_name u) []) (map-tabulate (λ n. line n []) letter_name n)
    (rw c.from.ensures at c.push_count.ensures)
    (pushing-all c.loop-u.invariant (omega arith)) (omega (arith, c.args.self.now.few))
