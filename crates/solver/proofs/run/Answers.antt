use Rattle.std.proofs.Common.{◌≡◌, ◌+◌, ◌∙◌, arith}
use Rattle.solver.proofs.Underway.{Underway, underway_on, all_there}
use Rattle.solver.proofs.Underway.{ended_passing, ended_resting, ended-later, ended_spent}
use Rattle.solver.proofs.run.Goals.{After-pursue-rounds}
use Rattle.solver.proofs.run.Goals as goal

-- after a turn, with the rounds that it passed over
same : (d : After-pursue-rounds) → d.pursue-rounds.new.stretch.compiled.now ≡ d.args.compiled.now
same d = d.pursue-rounds.ensures.1 ∙ (d.advance.ensures.0 ∙ (d.round.ensures.0 ∙ d.loop-rounds.invariant.3))

turned : (d : After-pursue-rounds) → let after = d.pursue-rounds.new.stretch in
    Underway d.args.compiled.now.frame.network d.args.a.now after.base after.rounds
    (d.loop-rounds.rounds + 1 + d.pursue-rounds.result)
turned d =
    let here = d.loop-rounds.invariant in
    let one = d.round.ensures in
    let two = d.advance.ensures in
    underway_on here.4 (rw (two.0, one.0, here.3, two.1, one.1, two.2, one.2) at d.pursue-rounds.ensures.2)

pub returns-in-Passes : goal.returns-in-Passes
returns-in-Passes c =
    let here = c.loop-rounds.invariant in (
      here.2,
      ended_passing (all_there here.3 here.4 c.loop-rounds.stretch.led) _ _ c.loop-rounds-test.true
          (rw here.3 at c.in-Passes.ensures.4),
    )

pub returns-in-Rests : goal.returns-in-Rests
returns-in-Rests c =
    let here = c.loop-rounds.invariant in
    let led = c.loop-rounds.stretch.led in
    rw (c.overwrite.ensures, c.table.ensures, c.in-Rests.ensures.3) (
      led.times.sized,
      ended_resting (all_there here.3 here.4 led) _ _ c.loop-rounds-test.true (rw here.3 at c.in-Rests.ensures.4),
    )

pub returns-in-Some-finish : goal.returns-in-Some-finish
returns-in-Some-finish c =
    let d = (goal.at.returns-in-Some-finish c).After-pursue-rounds in
    let end = c.in-Some-finish.ensures in (
      c.loop-rounds.invariant.2,
      ended-later (all_there (same d) (turned d) c.pursue-rounds.new.stretch.led) _ _
          (omega (arith, c.loop-rounds-test.true, c.pursue-rounds.ensures.0, end.0))
          (rw c.table-in-Some.ensures at end.1),
    )

pub loop-rounds-preserved-in_default-finish : goal.loop-rounds-preserved-in_default-finish
loop-rounds-preserved-in_default-finish c =
    let d = (goal.at.loop-rounds-preserved-in_default-finish c).After-pursue-rounds in
    let here = c.loop-rounds.invariant in (
      omega (arith, c.loop-rounds-test.true, c.pursue-rounds.ensures.0),
      omega (arith, here.1),
      here.2,
      same d,
      turned d,
    )

pub loop-rounds-preserved : goal.loop-rounds-preserved
loop-rounds-preserved c =
    let d = (goal.at.loop-rounds-preserved c).After-pursue-rounds in
    let here = c.loop-rounds.invariant in (
      omega (arith, c.loop-rounds-test.true, c.pursue-rounds.ensures.0),
      omega (arith, here.1),
      here.2,
      same d,
      turned d,
    )

pub returns : goal.returns
returns c =
    let here = c.loop-rounds.invariant in
    let led = c.loop-rounds.stretch.led in
    rw (c.overwrite-2.ensures, c.table-2.ensures) (
      led.times.sized,
      ended_spent (all_there here.3 here.4 led) _ _ (omega (arith, here.0, c.loop-rounds-test.false)),
    )
