-- 20 is asked before 21. Assumes nothing.
use mathlib.Core.Path.{sym, ◌∙◌}
use borrow.Author.Tests.{not-true, not-false}
use Rattle.network.specs.Build.{event_label}
use Rattle.line.specs.Labelling.{is_none_lem}
use Rattle.line.proofs.Labelling.{whole-start, whole_lacks, whole-passes}
use Rattle.line.proofs.whole.whole_of.Goals as goal

pub returns-then-ne : goal.returns-then-ne
returns-then-ne c =
    let Γ = c.args.network.now in
    sym (rw (whole-start Γ (not-true (is_none_lem (event_label Γ 0)) (sym c.ne.ensures ∙ c.if-ne.true))))

pub returns-then-not-are_complete : goal.returns-then-not-are_complete
returns-then-not-are_complete c =
    let Γ = c.args.network.now in
    sym (rw (whole_lacks Γ (not-false (is_none_lem (event_label Γ 0)) (sym c.ne.ensures ∙ c.if-ne.false))
    (sym c.are_complete.ensures ∙ c.if-not-are_complete.true)))

pub returns : goal.returns
returns c =
    let Γ = c.args.network.now in
    sym (rw (whole-passes Γ (not-false (is_none_lem (event_label Γ 0)) (sym c.ne.ensures ∙ c.if-ne.false))
    (sym c.are_complete.ensures ∙ c.if-not-are_complete.false)))
