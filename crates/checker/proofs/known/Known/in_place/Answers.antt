-- `in_place` meets its contract: without a letter nothing but the limits is asked; else a cell without its event must
-- be blank, and any other keeps its limits and waits. Assumes nothing.
use mathlib.Core.Path.{◌≡◌, sym, ◌∙◌}
use borrow.Author.Rules.{rules}
use Rattle.network.specs.Build.{no_label, event_label}
use Rattle.checker.proofs.Placed.{placed-always, placed-nowhere, placed-waiting, placed-late}
use Rattle.checker.proofs.known.Known.in_place.Goals as goal

pub returns-then-eq : goal.returns-then-eq
returns-then-eq c =
    let self = c.args.self.now in
    let Γ = self.strategy.formed.now.network in
    let none : event_label Γ c.args.u ≡ no_label = search rules in
    placed-always self.strategy.formed.now.well_formed self.strategy.table.now self.scenario c.args.u c.requires
    self.known c.time-time.ensures none c.on_time-limits.ensures

pub returns-then-not-happens : goal.returns-then-not-happens
returns-then-not-happens c =
    let self = c.args.self.now in
    placed-nowhere self.strategy.formed.now.well_formed self.strategy.table.now self.scenario c.args.u c.requires
    self.known c.time-time.ensures (sym c.happens.ensures ∙ c.if-not-happens.true)

pub returns-then-limits : goal.returns-then-limits
returns-then-limits c =
    let self = c.args.self.now in
    placed-waiting self.strategy.formed.now.well_formed self.strategy.table.now self.scenario c.args.u c.requires
    self.known c.time-time.ensures (sym c.happens.ensures ∙ c.if-not-happens.false) c.on_time-limits.ensures
    c.if-limits.true c.waits.ensures

pub returns-else-limits : goal.returns-else-limits
returns-else-limits c =
    let self = c.args.self.now in
    placed-late self.strategy.formed.now.well_formed self.strategy.table.now self.scenario c.args.u c.requires
    self.known c.time-time.ensures (sym c.happens.ensures ∙ c.if-not-happens.false) c.on_time-limits.ensures
    c.if-limits.false
