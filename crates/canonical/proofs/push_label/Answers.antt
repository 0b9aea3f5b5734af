use mathlib.Core.Path.{◌≡◌, ◌∙◌, ap}
use native.Mathlib.Omega.{arith}
use Prim.Native.Nat.{◌<◌}
use lib.ListN.{length}
use Rattle.std.proofs.lemmas.List.{get_or-take, length-take}
use Rattle.page.specs.Joined.{join_from}
use Rattle.page.proofs.Pushed.{pushed_both, pushed-within, pushed_as}
use Rattle.page.proofs.Pushing.{pushing-next, pushing-all}
use Rattle.network.specs.Build.{letter}
use Rattle.canonical.specs.Asked.{asked_text}
use Rattle.canonical.proofs.Literals.{literal_text_at, asked-literal, label-none, label-some}
use Rattle.canonical.proofs.push_label.Goals as goal

pub loop-p-preserved : goal.loop-p-preserved
loop-p-preserved c =
    let Γ = c.args.formed.now.network in
    let p = c.loop-p.p in
    let below : p < Γ.signals = omega (arith, length-take Γ.signals Γ.letters, c.loop-p-test.true) in
    let own = get_or-take Γ.signals Γ.letters p 0 below in
    let text =
    ap (λ l. asked_text l c.asked.result) own ∙ ap (asked_text (letter Γ p)) c.asked.ensures
    ∙ asked-literal Γ c.args.label p in
    pushing-next c.loop-p.invariant {j = 2} (omega arith)
    (pushed_as text c.push_literal.ensures (omega arith)) (omega arith)

pub returns-then-len-before : goal.returns-then-len-before
returns-then-len-before c =
    let Γ = c.args.formed.now.network in
    let all = pushing-all c.loop-p.invariant (omega arith) in
    let none : length (join_from 0 Γ.signals (literal_text_at Γ c.args.label)) ≡ 0 =
    omega (arith, all.grown, c.len.ensures, c.len-before.ensures, c.if-len-before.true) in
    pushed_as (label-none Γ c.args.label none)
    (pushed_both (pushed-within {l = 0} all (omega arith)) c.push.ensures)
    (omega arith)

pub returns-else-len-before : goal.returns-else-len-before
returns-else-len-before c =
    let Γ = c.args.formed.now.network in
    let all = pushing-all c.loop-p.invariant (omega arith) in
    pushed_as
    (label-some Γ c.args.label
    (λ none. c.if-len-before.false (omega (arith, all.grown, c.len.ensures, c.len-before.ensures))))
    all
    (omega (arith, c.args.formed.now.well_formed.signals))
