-- `canonical::push_case` meets its contract: nothing where the label is `-`, and else the name, a comma, the label and
-- the line feed, each behind the one before. Assumes nothing.
use mathlib.Core.Path.{sym, ◌∙◌, ap}
use mathlib.Core.List.{List, [], ◌∷◌, ◌++◌}
use Prim.Native.Nat.{ℕ}
use native.Mathlib.Omega.{arith}
use Rattle.text.specs.Lines.{comma, line_feed}
use Rattle.page.proofs.Pushed.{pushed_both, pushed_as}
use Rattle.network.specs.Build.{event_label}
use Rattle.layout.specs.Layout.{label_text}
use Rattle.canonical.specs.House.{literals_of}
use Rattle.canonical.proofs.CaseLines.{label-line}
use Rattle.canonical.proofs.push_case.Goals as goal

pub returns : goal.returns
returns c =
    let name = c.name.ensures in
    let accepted = c.args.accepted.now in
    let Γ = accepted.formed.network in
    let u = c.args.u in
    pushed_as
    (ap (λ (t : List ℕ). t ++ comma ∷ (label_text (literals_of Γ (event_label Γ u)) ++ line_feed ∷ [])) name.0
    ∙ label-line accepted.sheet.now Γ u (sym c.eq.ensures ∙ c.if-eq.false))
    (pushed_both c.push_all.ensures
    (pushed_both c.push.ensures (pushed_both c.push_label.ensures c.push-2.ensures)))
    (omega (arith, name.1))
