-- `keeps` meets its contract: a scenario in which the constraint does not count keeps it, and any other has its
-- two times compared. Assumes nothing.
use mathlib.Core.Path.{◌≡◌, sym, ◌∙◌, ap, ap₂}
use Prim.Native.Nat.{ℕ}
use borrow.Author.Rules.{rules}
use mir.Syntax.{w32}
use mir.Val.{SFits}
use mir.Facts.{to_z-of_z}
use Rattle.network.specs.Build.{constraint}
use Rattle.network.specs.Scenario.{satisfies}
use Rattle.network.specs.Constraint.{covers, admits}
use Rattle.network.proofs.Jointly.{covers-joint}
use Rattle.network.proofs.Reach.{scenario_lt, joint-letters}
use Rattle.checker.proofs.search.keeps.Goals.{After-satisfies}
use Rattle.checker.proofs.search.keeps.Goals as goal

-- the code's test of whether the constraint counts
counts : (d : After-satisfies) → let Γ = d.args.strategy.now.formed.now.network in
    d.satisfies.result ≡ covers Γ (constraint Γ d.args.c) d.args.s
counts d =
    let Γ = d.args.strategy.now.formed.now.network in
    d.satisfies.ensures
    ∙ ap (satisfies d.args.s) d.joint.ensures
    ∙ sym (covers-joint Γ (constraint Γ d.args.c) d.args.s)

pub satisfies-requires : goal.satisfies-requires
satisfies-requires c =
    let W = c.args.strategy.now.formed.now.well_formed in
    (scenario_lt W c.args.s c.requires.0, rw c.joint.ensures (joint-letters W c.args.c c.requires.1))

pub returns-then-not-satisfies : goal.returns-then-not-satisfies
returns-then-not-satisfies c =
    let d = (goal.at.returns-then-not-satisfies c).After-satisfies in
    rw (sym (counts d) ∙ c.if-not-satisfies.true)

pub returns : goal.returns
returns c =
    let d = (goal.at.returns c).After-satisfies in
    let rule = constraint c.args.strategy.now.formed.now.network c.args.c in
    let fits : SFits w32 rule.bound = search rules in
    rw (sym (counts d) ∙ c.if-not-satisfies.false)
    (c.admits.ensures
    ∙ ap (admits rule.kind c.time-a.result c.time-b.result) (to_z-of_z fits)
    ∙ ap₂ (λ (x y : ℕ). admits rule.kind x y rule.bound) c.time-a.ensures c.time-b.ensures)
