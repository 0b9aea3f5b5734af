use mathlib.Core.Path.{ap}
use mathlib.Core.List.{List, [], ◌∷◌, ◌++◌}
use Prim.Native.Nat.{ℕ}
use native.Mathlib.Omega.{arith}
use Rattle.text.specs.Lines.{line_feed, line}
use Rattle.page.proofs.Pushed.{pushed_both, pushed_as}
use Rattle.page.proofs.Pushing.{pushing-next, pushing-all}
use Rattle.network.specs.Build.{name_of_lem}
use Rattle.prelude.proofs.Mapped.{map-tabulate}
use Rattle.layout.proofs.Pushed.{section_pushed}
use Rattle.canonical.proofs.push_events.Goals as goal

pub loop-u-preserved : goal.loop-u-preserved
loop-u-preserved c =
    pushing-next c.loop-u.invariant {j = 9} (omega arith)
    (pushed_as
    (ap (λ (t : List ℕ). t ++ line_feed ∷ []) c.name.ensures.0)
    (pushed_both c.push_all.ensures c.push.ensures)
    (omega (arith, c.name.ensures.1)))
    (omega arith)

pub returns : goal.returns
returns c =
    let sheet = c.args.accepted.now.sheet.now in
    let Γ = c.args.accepted.now.formed.network in
    section_pushed "events" _ Γ.events (λ i. line (name_of_lem Γ sheet i) [])
    (map-tabulate (λ n. line n []) (name_of_lem Γ sheet) Γ.events)
    c.push_count.ensures
    (pushing-all c.loop-u.invariant (omega arith))
    (omega (arith, c.args.accepted.now.formed.well_formed.events))
