-- `opening_solve_within` meets its contract: what was solved into minutes is written as pairs, and how far the run came
-- stands beside it. Assumes nothing.
use mathlib.Core.Path.{◌≡◌, ◌∙◌, ap}
use Prim.Native.Nat.{◌<◌}
use native.Mathlib.Omega.{arith}
use Rattle.calls.specs.Call.{Leaves}
use Rattle.calls.specs.Lent.{in_pairs}
use Rattle.calls.specs.Within.{reach_of}
use Rattle.calls.specs.Bench.{reach_bytes, bench_within, packed_left}
use Rattle.calls.proofs.Within.{written_into, written-same}
use Rattle.calls.proofs.ReachFits.{within_count, reach-few}
use Rattle.calls.proofs.Benched.{benched}
use Rattle.calls.proofs.Clauses.{within-clauses}
use Rattle.opening_c.proofs.WithinPairs.{within_from_zeros, reach_from_zeros}
use Rattle.opening_c.proofs.Told.{progress-left}
use Rattle.opening_c.proofs.opening_solve_within.Goals.{After-packed_table-packed}
use Rattle.opening_c.proofs.opening_solve_within.Goals as goal

-- without how far the run came, and how far
plain : (d : After-packed_table-packed)
    → Leaves (packed_left (written_into d.args.sheet.now d.args.rounds (in_pairs d.args.table.now)))
    d.packed_table-packed.result d.packed_table-packed.new.table
plain d =
    within_from_zeros d.args.sheet.now d.args.rounds d.args.table.now _ d.room-lent.ensures
    d.solve_within-progress.ensures.outcome d.written_within.ensures d.packed_table-packed.ensures

came : (d : After-packed_table-packed)
    → reach_of d.solve_within-progress.result
    ≡ reach_of (bench_within d.args.sheet.now d.args.rounds d.args.table.now).answer
came d =
    reach_from_zeros d.args.sheet.now d.args.rounds d.args.table.now _ d.room-lent.ensures
    d.solve_within-progress.ensures.outcome

few : (d : After-packed_table-packed) → reach_bytes (reach_of d.solve_within-progress.result) < 16777216
few d = rw (came d) (reach-few d.args.sheet.now d.args.rounds d.args.table.now)

pub reach-requires : goal.reach-requires
reach-requires c = few (goal.at.reach-requires c).After-packed_table-packed

pub with_rounds-requires : goal.with_rounds-requires
with_rounds-requires c =
    let d = (goal.at.with_rounds-requires c).After-packed_table-packed in
    let sheet = c.args.sheet.now in
    let b = c.args.table.now in (
      rw ((plain d).answer, ← written-same sheet c.args.rounds (in_pairs b))
          (omega (arith, (within_count sheet c.args.rounds b).rest)),
      omega (arith, c.reach.ensures, few d),
    )

pub returns : goal.returns
returns c =
    let d = (goal.at.returns c).After-packed_table-packed in
    let sheet = c.args.sheet.now in
    let n = c.args.rounds in
    let b = c.args.table.now in
    let h = progress-left sheet n (in_pairs b) (plain d) (c.reach.ensures ∙ ap reach_bytes (came d))
    c.with_rounds.ensures in
    let held = rw (← h.answer) at (benched.within_holds sheet n b) in
    let w = within-clauses sheet n (in_pairs b) _ _ _ held.values held.reach h.memory in
    record {
      outcome = h;
      refusals = w.refusals;
      stopped = w.stopped;
      finished = w.finished;
      no_round = w.no_round;
      header = benched.reach_holds _;
    }
