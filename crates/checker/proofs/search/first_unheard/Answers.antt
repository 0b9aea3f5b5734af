use mathlib.Core.Path.{◌≡◌, refl, sym, ◌∙◌, ap}
use native.Mathlib.Omega.{arith}
use Rattle.prelude.specs.Options.{option_of}
use Rattle.checker.specs.Verdict.{is_alike}
use Rattle.checker.specs.declared.Breach.TheVariants.{Unheard}
use Rattle.checker.proofs.Seeking.{seeking_on, hit, past_row, row_hit}
use Rattle.checker.proofs.search.first_unheard.Goals.{After-alike}
use Rattle.checker.proofs.search.first_unheard.Goals as goal

-- the code's test of an event is that of the strategy
tested : (d : After-alike) → let self = d.args.strategy.now in
    d.alike.result ≡ is_alike self.formed.now.network self.table.now d.unheard.s d.loop-r.r d.loop-u.u
tested d = rw (d.of-known.ensures.0, d.of-known.ensures.1) at d.alike.ensures

pub loop-u-preserved : goal.loop-u-preserved
loop-u-preserved c =
    let d = (goal.at.loop-u-preserved c).After-alike in
    let kept = sym (tested d) ∙ c.if-not-alike.false in
    seeking_on c.loop-u.invariant (omega arith) (rw kept)

pub loop-r-preserved : goal.loop-r-preserved
loop-r-preserved c = past_row c.loop-r.invariant c.loop-u.invariant refl (omega arith) (omega arith)

pub unheard-preserved : goal.unheard-preserved
unheard-preserved c = past_row c.unheard.invariant c.loop-r.invariant refl (omega arith) (omega arith)

pub returns-then-not-alike : goal.returns-then-not-alike
returns-then-not-alike c =
    let d = (goal.at.returns-then-not-alike c).After-alike in
    let unheard = sym (tested d) ∙ c.if-not-alike.true in
    let breach = Unheard c.unheard.s c.loop-r.r c.loop-u.u in
    let at = row_hit c.loop-r.invariant c.loop-u.invariant refl breach (omega arith) (omega arith) (rw unheard) in
    ap option_of (sym (hit c.unheard.invariant breach (omega arith) at))
