use mathlib.Core.Path.{◌≡◌, ◌∙◌, ap}
use Prim.Native.Nat.{ℕ}
use native.Mathlib.Omega.{arith}
use lib.ListN.{length}
use Rattle.page.proofs.Pushed.{pushed_as}
use Rattle.page.proofs.Pushing.{pushing-next, pushing-all}
use Rattle.network.specs.Build.{letter}
use Rattle.layout.specs.Layout.{reaction_line}
use Rattle.canonical.specs.Listed.{slow_by, labelled_of}
use Rattle.layout.specs.Most.{most_reaction}
use Rattle.canonical.proofs.Gathered.{line_by}
use Rattle.canonical.proofs.SlowLines.{slow_pushed}
use Rattle.canonical.proofs.Slow.{slow_few}
use Rattle.canonical.proofs.push_reactions.Goals.{else-count-eq0-via-then-count-eq0+else-labelled_count-eq0}
use Rattle.canonical.proofs.push_reactions.Goals.{else-count-eq0-via-else-count-eq0}
use Rattle.canonical.proofs.push_reactions.Goals as goal

pub overflow_cast-count : goal.overflow_cast-count
overflow_cast-count c =
    let formed = c.args.formed.now in
    omega (arith, c.slow_count-count.ensures, slow_few formed.network, formed.well_formed.signals)

pub loop-p-preserved : goal.loop-p-preserved
loop-p-preserved c =
    let Γ = c.args.formed.now.network in
    let text = ap (λ (x : ℕ). line_by reaction_line (slow_by (letter Γ c.loop-p.p) x)) c.reaction_of.ensures in
    pushing-next c.loop-p.invariant {j = most_reaction} (omega arith)
    (pushed_as text c.push_reaction.ensures (omega arith)) (omega arith)

pub returns : goal.returns
returns c =
    let Γ = c.args.formed.now.network in
    let count = c.slow_count-count in
    let listed : count.result ≡ 0 → length (labelled_of Γ) ≡ 0 → ⊥ =
    elim c.else-count-eq0.branch [
      | else-count-eq0-via-then-count-eq0+else-labelled_count-eq0 w ↦
          λ e f. w.if-labelled_count-eq0.false (w.labelled_count.ensures ∙ f)
      | else-count-eq0-via-else-count-eq0 w ↦ λ e f. w.if-count-eq0.false e
    ] in
    slow_pushed Γ (length (labelled_of Γ)) count.result count.ensures listed c.push_count.ensures
    (pushing-all c.loop-p.invariant (omega arith)) (omega (arith, c.args.formed.now.well_formed.signals))
