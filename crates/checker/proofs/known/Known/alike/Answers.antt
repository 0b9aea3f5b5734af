-- `alike` meets its contract: before the scenarios are told apart nothing is known on which they differ. Assumes
-- nothing.
use mathlib.Core.Path.{◌≡◌, sym, ◌∙◌, ap}
use mathlib.Core.Bool.{Bool, true, false, ◌&&◌, not}
use native.Mathlib.Omega.{arith}
use Rattle.network.specs.Happens.{happens}
use Rattle.checker.specs.Verdict.{is_alike}
use Rattle.checker.proofs.Plain.{alike-later, alike-same, alike-sooner}
use Rattle.checker.proofs.known.Known.alike.Goals.{Else-mine-theirs}
use Rattle.checker.proofs.known.Known.alike.Goals as goal

pub returns-then-told-from : goal.returns-then-told-from
returns-then-told-from c =
    let self = c.args.self.now in
    alike-later self.strategy.formed.now.network self.strategy.table.now self.scenario c.args.r c.args.u self.known
    c.requires.1 c.time-mine.ensures c.time-theirs.ensures (omega arith) (omega arith)

pub returns-then-mine-theirs : goal.returns-then-mine-theirs
returns-then-mine-theirs c =
    let self = c.args.self.now in
    alike-same self.strategy.formed.now.network self.strategy.table.now self.scenario c.args.r c.args.u self.known
    c.requires.1 c.time-mine.ensures c.time-theirs.ensures (omega arith) c.if-mine-theirs.true

-- what is left is whether the event happens in both
left : (d : Else-mine-theirs) → let self = d.args.self.now in
    let Γ = self.strategy.formed.now.network in
    not (happens Γ self.scenario d.args.u && happens Γ d.args.r d.args.u)
    ≡ is_alike Γ self.strategy.table.now self.scenario d.args.r d.args.u
left d =
    let self = d.args.self.now in
    alike-sooner self.strategy.formed.now.network self.strategy.table.now self.scenario d.args.r d.args.u self.known
    d.requires.1 d.time-mine.ensures d.time-theirs.ensures (omega arith) (λ l. omega arith) d.if-mine-theirs.false

-- where it does not happen in one of them nothing is asked
away : {a z : Bool} (b : Bool) → not (a && b) ≡ z → a ≡ false → true ≡ z
away b l e = rw e at l

here : {a z : Bool} (b : Bool) → not (a && b) ≡ z → a ≡ true → not b ≡ z
here b l e = rw e at l

pub returns-then-not-happens : goal.returns-then-not-happens
returns-then-not-happens c =
    let d = (goal.at.returns-then-not-happens c).Else-mine-theirs in
    ap not c.if-not-happens.true ∙ away _ (left d) (sym c.happens.ensures ∙ c.if-not-happens.true)

pub returns-else-not-happens : goal.returns-else-not-happens
returns-else-not-happens c =
    let d = (goal.at.returns-else-not-happens c).Else-mine-theirs in
    ap not c.happens-else-not-happens.ensures
    ∙ here _ (left d) (sym c.happens.ensures ∙ c.if-not-happens.false)
