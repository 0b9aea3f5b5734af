use mathlib.Core.Path.{ap}
use mathlib.Core.List.{List, [], ◌∷◌, ◌++◌}
use Prim.Native.Nat.{ℕ}
use native.Mathlib.Omega.{arith}
use Rattle.text.specs.Lines.{comma, line_feed}
use Rattle.page.proofs.Pushed.{pushed_both, pushed_as}
use Rattle.page.proofs.Pushing.{pushing-next, pushing-all}
use Rattle.network.specs.Build.{letter}
use Rattle.layout.specs.Layout.{signal_line}
use Rattle.canonical.specs.House.{signal_at}
use Rattle.prelude.proofs.Mapped.{map-tabulate}
use Rattle.layout.proofs.Pushed.{section_pushed}
use Rattle.canonical.proofs.push_signals.Goals as goal

pub loop-p-preserved : goal.loop-p-preserved
loop-p-preserved c =
    let Γ = c.args.accepted.now.formed.network in
    pushing-next c.loop-p.invariant {j = 11} (omega arith)
    (pushed_as
    (ap (λ (t : List ℕ). letter Γ c.loop-p.p ∷ comma ∷ t ++ line_feed ∷ []) c.name.ensures.0)
    (pushed_both c.push.ensures (pushed_both c.push_field.ensures c.push-in-loop-p.ensures))
    (omega (arith, c.name.ensures.1)))
    (omega arith)

pub returns : goal.returns
returns c =
    let sheet = c.args.accepted.now.sheet.now in
    let Γ = c.args.accepted.now.formed.network in
    section_pushed "signals" _ Γ.signals (λ i. signal_line (signal_at sheet Γ i))
    (map-tabulate signal_line (signal_at sheet Γ) Γ.signals)
    c.push_count.ensures
    (pushing-all c.loop-p.invariant (omega arith))
    (omega (arith, c.args.accepted.now.formed.well_formed.signals))
