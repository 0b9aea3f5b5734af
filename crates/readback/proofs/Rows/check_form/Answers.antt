use mathlib.Core.Path.{◌≡◌, sym, ◌∙◌}
use mathlib.Core.Bool.{◌&&◌}
use Prim.Native.Nat.{◌+◌, ◌^◌, ◌≤◌, ◌<◌}
use native.Mathlib.Omega.{arith}
use Rattle.std.specs.Bool.{then_some}
use Rattle.std.proofs.lemmas.Result.{err_from_is_err_and}
use lib.ListN.{length}
use Rattle.prelude.proofs.Options.{then_some_none, then_some_some}
use Rattle.text.specs.Lines.{line_at, ends_at}
use Rattle.text.proofs.Lines.{take-drop}
use Rattle.network.specs.Limits as L
use Rattle.listing.proofs.Truths.{few-scenarios}
use Rattle.readback.specs.Rows.{is_row_lem}
use Rattle.readback.proofs.Optional.{ok_or_err, ok_or_ok}
use Rattle.readback.proofs.Passes.{Forming, forming-next, forming-fault}
use Rattle.readback.proofs.Passes.{forming_over, forming-all}
use Rattle.readback.proofs.Rows.check_form.Goals.{After-row_at, At-loop-s, In-loop-s, In_ok-e}
use Rattle.readback.proofs.Rows.check_form.Goals as goal

-- there is a row left, of few
more : (d : In-loop-s) → d.loop-s.s < 2 ^ d.args.self.now.formed.now.network.signals
more d = omega (arith, d.loop-s-test.true, d.scenario_count-count.ensures)

few : (d : At-loop-s) → 2 ^ d.args.self.now.formed.now.network.signals ≤ 2 ^ L.signals
few d = few-scenarios d.args.self.now.formed.now.network.signals d.args.self.now.formed.now.well_formed.signals

-- the answer is that on the line at this place
row_is : (d : After-row_at) → let network = d.args.self.now.formed.now.network in
    let bytes = d.args.self.now.printed.now in
    d.row_at.result
    ≡ then_some (ends_at bytes d.loop-s.at && is_row_lem network.signals network.events d.loop-s.s
    (line_at bytes d.loop-s.at))
    (length (line_at bytes d.loop-s.at))
row_is d = rw (take-drop d.args.self.now.printed.now d.loop-s.at) at d.row_at.ensures

-- where the row fits, the next one begins behind it
next : (d : In_ok-e) → let network = d.args.self.now.formed.now.network in
    Forming d.args.self.now.printed.now d.args.self.now.first network.signals network.events (d.loop-s.s + 1)
    (d.loop-s.at + (d.in_ok-e.e + 1))
next d =
    let place : d.loop-s.at + (d.in_ok-e.e + 1) ≡ d.loop-s.at + d.in_ok-e.e + 1 = omega arith in
    let row = ok_or_ok _ _ _ (sym d.ok_or.ensures.value ∙ d.in_ok-e.was) in
    let fits = then_some_some _ _ _ (sym (row_is (goal.at.In_ok-e d).After-row_at) ∙ row) in
    rw place (forming-next d.loop-s.invariant (more (goal.at.In_ok-e d).In-loop-s) fits.0 _ (sym fits.1))

pub line_number-requires : goal.line_number-requires
line_number-requires c = omega (arith, few (goal.at.line_number-requires c).At-loop-s)

pub returns-in_err-e : goal.returns-in_err-e
returns-in_err-e c =
    let d = goal.at.returns-in_err-e c in
    let row = ok_or_err _ _ _ (sym c.ok_or.ensures.value ∙ c.in_err-e.was) in
    let fault = forming-fault c.loop-s.invariant (more d.In-loop-s)
    (then_some_none _ _ (sym (row_is d.After-row_at) ∙ row.0)) in
    let p = err_from_is_err_and c.from_residual.result c.from_residual.ensures.1 in
    rw (p.1, p.2, row.1, c.line_number.ensures) fault

pub overflow_add-at : goal.overflow_add-at
overflow_add-at c = omega (arith, (next (goal.at.overflow_add-at c).In_ok-e).inside)

pub overflow_add-at-in-loop-s : goal.overflow_add-at-in-loop-s
overflow_add-at-in-loop-s c = omega (arith, (next (goal.at.overflow_add-at-in-loop-s c).In_ok-e).inside)

pub loop-s-preserved : goal.loop-s-preserved
loop-s-preserved c = next (goal.at.loop-s-preserved c).In_ok-e

pub line_number-requires-then-at-self : goal.line_number-requires-then-at-self
line_number-requires-then-at-self c =
    omega (arith, c.scenario_count-count.ensures, few (goal.at.line_number-requires-then-at-self c).At-loop-s)

pub returns-then-at-self : goal.returns-then-at-self
returns-then-at-self c =
    rw (c.line_number-then-at-self.ensures, c.scenario_count-count.ensures)
    (forming_over c.loop-s.invariant (omega (arith, c.loop-s-test.false, c.scenario_count-count.ensures)) (omega arith))

pub returns : goal.returns
returns c =
    forming-all c.loop-s.invariant (omega (arith, c.loop-s-test.false, c.scenario_count-count.ensures)) (omega arith)
