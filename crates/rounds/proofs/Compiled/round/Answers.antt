use mathlib.Core.Path.{◌≡◌}
use mathlib.Core.Logic.{inl, inr}
use Prim.Native.Nat.{◌<◌}
use native.Mathlib.Omega.{arith}
use Rattle.network.specs.Build.{scenarios}
use Rattle.rows.proofs.Framed.{scenarios_few}
use Rattle.rounds.specs.Rounds.{raised_at}
use Rattle.rounds.proofs.Raise.{no_fall}
use Rattle.rounds.proofs.Rounding.{Rounding, greatest, rounding_next}
use Rattle.rounds.proofs.Rounded.{ends_passing, ends_resting, ends_rising}
use Rattle.rounds.proofs.Compiled.round.Goals.{In-loop-s, After-loop-s, then-self-latest-via-then-self-latest}
use Rattle.rounds.proofs.Compiled.round.Goals.{then-self-latest-via-else-self-latest+then-marks-gt0}
use Rattle.rounds.proofs.Compiled.round.Goals as goal

few : (d : In-loop-s) → d.loop-s.s < 16
few d = omega (arith, d.loop-s-test.true, scenarios_few d.args.self.now.frame)

-- all rows are made
made : (d : After-loop-s) → let Γ = d.args.self.now.frame.network in
    Rounding (raised_at Γ d.args.self.now.lists.now d.args.t.now) (scenarios Γ) d.args.t.now d.loop-s.new
    d.loop-s.marks.climb d.loop-s.marks.highest (scenarios Γ)
made d =
    let frame = d.args.self.now.frame in
    let e : d.loop-s.s ≡ scenarios frame.network = omega (
      arith,
      d.loop-s.auto.s-end,
      d.loop-s-test.false,
      frame.scenarios_are,
    ) in
    rw (frame.scenarios_are, e) at d.loop-s.invariant

pub read_row-requires : goal.read_row-requires
read_row-requires c = few (goal.at.read_row-requires c).In-loop-s

pub write_row-requires : goal.write_row-requires
write_row-requires c = few (goal.at.write_row-requires c).In-loop-s

pub note-requires : goal.note-requires
note-requires c =
    let compiled = c.args.self.now in
    let Γ = compiled.frame.network in
    let s = c.loop-s.s in
    let in-s : s < scenarios Γ = omega (arith, c.loop-s-test.true, compiled.frame.scenarios_are) in
    let before = c.read_row.ensures in
    let after = c.raised-raised.ensures in
    λ u l. omega (arith, before.is u l, after.is u l, no_fall compiled.lists.now c.args.t.now s Γ c.requires in-s u l)

pub loop-s-preserved : goal.loop-s-preserved
loop-s-preserved c =
    rounding_next _ _ _ c.loop-s.invariant c.loop-s-test.true c.read_row.ensures c.raised-raised.ensures
    c.write_row.ensures c.note.ensures.0 c.note.ensures.1

pub returns-then-self-latest : goal.returns-then-self-latest
unfolding greatest
returns-then-self-latest c =
    let compiled = c.args.self.now in
    ends_passing compiled.frame.formed compiled.compiled.0 c.requires
    (made (goal.at.returns-then-self-latest c).After-loop-s)
    (elim c.then-self-latest.branch [
      | then-self-latest-via-then-self-latest w ↦ inl (rw c.latest.ensures at w.if-self-latest.true)
      | then-self-latest-via-else-self-latest+then-marks-gt0 w ↦ inr w.if-marks-gt0.true
    ])

pub returns-then-steepest-eq0 : goal.returns-then-steepest-eq0
unfolding greatest
returns-then-steepest-eq0 c =
    let compiled = c.args.self.now in
    ends_resting compiled.frame.formed compiled.compiled.0 c.requires
    (made (goal.at.returns-then-steepest-eq0 c).After-loop-s) (rw c.latest.ensures at c.if-self-latest.false)
    c.if-marks-gt0.false (rw c.steepest.ensures at c.if-steepest-eq0.true)

pub returns : goal.returns
unfolding greatest
returns c =
    let compiled = c.args.self.now in
    ends_rising compiled.frame.formed compiled.compiled.0 c.requires (made (goal.at.returns c).After-loop-s)
    (rw c.latest.ensures at c.if-self-latest.false) c.if-marks-gt0.false
    (rw c.steepest.ensures at c.if-steepest-eq0.false)
