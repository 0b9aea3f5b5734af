-- `canonical::push_rule` meets its contract: the word and the two names, the limit, the label and the line feed, each
-- behind what is written so far. Assumes nothing.
use mathlib.Core.Path.{ap₂}
use mathlib.Core.List.{◌∷◌, ◌++◌}
use native.Mathlib.Omega.{arith}
use Rattle.text.specs.Lines.{comma}
use Rattle.page.specs.Pushed.{Pushed}
use Rattle.page.proofs.Pushed.{pushed_then, pushed_both, pushed_as}
use Rattle.network.specs.Build.{name_of_lem}
use Rattle.network.proofs.Signed.{read_back}
use Rattle.layout.specs.Layout.{signed_text, label_text}
use Rattle.canonical.specs.House.{literals_of}
use Rattle.canonical.proofs.RuleLine.{ends_text, rule-line}
use Rattle.canonical.proofs.push_rule.Goals as goal

pub returns : goal.returns
returns c =
    let sheet = c.args.accepted.now.sheet.now in
    let Γ = c.args.accepted.now.formed.network in
    let upper = c.args.upper.now in
    let from = name_of_lem Γ sheet upper.from in
    let to = name_of_lem Γ sheet upper.to in
    let limit = signed_text upper.bound in
    let label = label_text (literals_of Γ upper.label) in
    let ends : Pushed 21 c.args.page.now (ends_text from to) c.push_field-2.new.self =
    pushed_as
    (ap₂ ends_text c.name.ensures.0 c.name-2.ensures.0)
    (pushed_both c.push_all.ensures (pushed_both c.push_field.ensures c.push_field-2.ensures))
    (omega (arith, c.name.ensures.1, c.name-2.ensures.1)) in
    let written : Pushed 37 c.args.page.now ((ends_text from to ++ comma ∷ limit) ++ comma ∷ label)
    c.push_label.new.page =
    pushed_then
    (pushed_both ends (rw (read_back upper.bound c.requires.0.bound) at c.push_limit.ensures))
    (pushed_both c.push.ensures c.push_label.ensures)
    (omega arith) in
    pushed_as (rule-line from to limit label) (pushed_both written c.push-2.ensures) (omega arith)
