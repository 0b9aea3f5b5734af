-- `opening_solve` meets its contract: what was solved into minutes is written as pairs, and the count of rounds stands
-- beside it. Assumes nothing.
use mathlib.Core.Path.{◌≡◌, ◌∙◌, ap}
use native.Mathlib.Omega.{arith}
use Rattle.calls.specs.Values.{number_values}
use Rattle.calls.specs.Call.{Leaves}
use Rattle.calls.specs.Lent.{in_pairs}
use Rattle.calls.specs.Counting.{rounds_taken}
use Rattle.calls.specs.Bench.{bench_solving, packed_left}
use Rattle.calls.proofs.Counting.{answer-counted, rounds-counted, taken_few}
use Rattle.calls.proofs.Header.{solver_count}
use Rattle.calls.proofs.Benched.{benched}
use Rattle.calls.proofs.Clauses.{solve-clauses}
use Rattle.opening_c.proofs.Pairs.{solved_from_zeros, rounds_from_zeros}
use Rattle.opening_c.proofs.Told.{counted-left}
use Rattle.opening_c.proofs.opening_solve.Goals.{After-rounds}
use Rattle.opening_c.proofs.opening_solve.Goals as goal

-- without the count, and the count
plain : (d : After-rounds)
    → Leaves (packed_left (bench_solving d.args.sheet.now d.args.table.now)) d.packed_table-packed.result
    d.packed_table-packed.new.table
plain d =
    solved_from_zeros d.args.sheet.now d.args.table.now _ d.room-lent.ensures d.solve_sheet-solved.ensures.outcome
    d.written.ensures d.packed_table-packed.ensures

made : (d : After-rounds) → d.rounds.result ≡ rounds_taken d.args.sheet.now (in_pairs d.args.table.now)
made d =
    d.rounds.ensures
    ∙ rounds_from_zeros d.args.sheet.now d.args.table.now _ d.room-lent.ensures d.solve_sheet-solved.ensures.outcome

pub with_rounds-requires : goal.with_rounds-requires
with_rounds-requires c =
    let sheet = c.args.sheet.now in
    let b = c.args.table.now in (
      omega (arith, (plain c).answer, (solver_count sheet b).rest),
      omega (arith, made c, taken_few sheet (in_pairs b)),
    )

pub returns : goal.returns
returns c =
    let d = (goal.at.returns c).After-rounds in
    let sheet = c.args.sheet.now in
    let b = c.args.table.now in
    let a = (bench_solving sheet b).answer in
    let k = rounds_taken sheet (in_pairs b) in
    let h = counted-left sheet (in_pairs b) (plain d) (made d) c.with_rounds.ensures in
    let held = rw (← h.answer) at (benched.solver_holds sheet b) in
    let w = solve-clauses sheet (in_pairs b) _ _ _ (held.values ∙ ap number_values (answer-counted k a))
    (held.rounds ∙ rounds-counted k a) h.memory in
    record {
      outcome = h;
      refusals = w.refusals;
      none = w.none;
      least = w.least;
      rounds = w.rounds;
      unused = held.rest;
    }
