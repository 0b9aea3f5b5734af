-- The sections one behind the other, and then the end: behind each of them, what is left gives what the whole sheet
-- does. Assumes nothing.
use mathlib.Core.Path.{refl, sym, ◌∙◌, ap}
use Rattle.std.specs.Prelude.{Err}
use Rattle.line.proofs.Refusals.{exits}
use Rattle.sheet.specs.Reading.{answered, read_end}
use Rattle.sheet.proofs.Whole.{from_events, from_signals, from_rules, from_reactions, from_cases, begun, went_on}
use Rattle.sheet.proofs.Whole.{Leads, stopped, end_stops, end_goes}
use Rattle.sheet.proofs.Sections.{read_too_long}
use Rattle.sheet.proofs.read.Goals.{In_ok-horizon, In_ok-events, In_ok-signals, In_ok-rules, In_ok-reactions}
use Rattle.sheet.proofs.read.Goals.{In_ok-cases}
use Rattle.sheet.proofs.read.Goals as goal

behind-horizon : (d : In_ok-horizon) → Leads d.args.sheet.now from_events d.in_ok-horizon.horizon
behind-horizon d =
    went_on d.args.sheet.now from_events (begun d.args.sheet.now d.if-sheet-gt-LONGEST.false)
    d.in_ok-horizon.ensures.read

behind-events : (d : In_ok-events) → Leads d.args.sheet.now from_signals d.in_ok-events.events
behind-events d =
    went_on d.args.sheet.now from_signals (behind-horizon (goal.at.In_ok-events d).In_ok-horizon)
    d.in_ok-events.ensures.read

behind-signals : (d : In_ok-signals) → Leads d.args.sheet.now from_rules d.in_ok-signals.signals
behind-signals d =
    went_on d.args.sheet.now from_rules (behind-events (goal.at.In_ok-signals d).In_ok-events)
    d.in_ok-signals.ensures.read

behind-rules : (d : In_ok-rules) → Leads d.args.sheet.now from_reactions d.in_ok-rules.rules
behind-rules d =
    went_on d.args.sheet.now from_reactions (behind-signals (goal.at.In_ok-rules d).In_ok-signals)
    d.in_ok-rules.ensures.read

behind-reactions : (d : In_ok-reactions) → Leads d.args.sheet.now from_cases d.in_ok-reactions.reactions
behind-reactions d =
    went_on d.args.sheet.now from_cases (behind-rules (goal.at.In_ok-reactions d).In_ok-rules)
    d.in_ok-reactions.ensures.read

behind-cases : (d : In_ok-cases) → Leads d.args.sheet.now read_end d.in_ok-cases.cases
behind-cases d =
    went_on d.args.sheet.now read_end (behind-reactions (goal.at.In_ok-cases d).In_ok-reactions)
    d.in_ok-cases.ensures.read

pub returns-then-sheet-gt-LONGEST : goal.returns-then-sheet-gt-LONGEST
returns-then-sheet-gt-LONGEST c =
    read_too_long c.args.sheet.now c.if-sheet-gt-LONGEST.true ∙ ap Err (sym c.without_line.ensures)

pub returns-in_err-horizon : goal.returns-in_err-horizon
returns-in_err-horizon c =
    let out = c.from_residual in
    rw (exits out.result c.in_err-horizon.field-0.0 out.ensures.1)
    (stopped c.args.sheet.now from_events (begun c.args.sheet.now c.if-sheet-gt-LONGEST.false)
    c.in_err-horizon.ensures.read)

pub returns-in_err-events : goal.returns-in_err-events
returns-in_err-events c =
    let d = (goal.at.returns-in_err-events c).In_ok-horizon in
    let out = c.from_residual-in_err-events in
    rw (exits out.result c.in_err-events.field-0.0 out.ensures.1)
    (stopped c.args.sheet.now from_signals (behind-horizon d) c.in_err-events.ensures.read)

pub returns-in_err-signals : goal.returns-in_err-signals
returns-in_err-signals c =
    let d = (goal.at.returns-in_err-signals c).In_ok-events in
    let out = c.from_residual-in_err-signals in
    rw (exits out.result c.in_err-signals.field-0.0 out.ensures.1)
    (stopped c.args.sheet.now from_rules (behind-events d) c.in_err-signals.ensures.read)

pub returns-in_err-rules : goal.returns-in_err-rules
returns-in_err-rules c =
    let d = (goal.at.returns-in_err-rules c).In_ok-signals in
    let out = c.from_residual-in_err-rules in
    rw (exits out.result c.in_err-rules.field-0.0 out.ensures.1)
    (stopped c.args.sheet.now from_reactions (behind-signals d) c.in_err-rules.ensures.read)

pub returns-in_err-reactions : goal.returns-in_err-reactions
returns-in_err-reactions c =
    let d = (goal.at.returns-in_err-reactions c).In_ok-rules in
    let out = c.from_residual-in_err-reactions in
    rw (exits out.result c.in_err-reactions.field-0.0 out.ensures.1)
    (stopped c.args.sheet.now from_cases (behind-rules d) c.in_err-reactions.ensures.read)

pub returns-in_err-cases : goal.returns-in_err-cases
returns-in_err-cases c =
    let d = (goal.at.returns-in_err-cases c).In_ok-reactions in
    let out = c.from_residual-in_err-cases in
    rw (exits out.result c.in_err-cases.field-0.0 out.ensures.1)
    (stopped c.args.sheet.now read_end (behind-reactions d) c.in_err-cases.ensures.read)

pub returns-then-cases-sheet : goal.returns-then-cases-sheet
returns-then-cases-sheet c =
    let x = c.in_ok-cases.cases in
    rw c.at.ensures
    (behind-cases (goal.at.returns-then-cases-sheet c).In_ok-cases
    ∙ ap answered (end_stops c.args.sheet.now x.network x.at x.line c.if-cases-sheet.true))

pub returns : goal.returns
returns c =
    let x = c.in_ok-cases.cases in (
      refl,
      behind-cases (goal.at.returns c).In_ok-cases
          ∙ ap answered (end_goes c.args.sheet.now x.network x.at x.line c.if-cases-sheet.false),
    )
