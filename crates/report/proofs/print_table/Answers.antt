-- The solver's table is listed, and its refusal printed.
use Rattle.std.proofs.Common.{subst, sym, ap, replicate}
use Rattle.listing.specs.Most.{most_listing}
use Rattle.files.specs.Whole.{Prints}
use Rattle.calls.specs.Counting.{answer_of}
use Rattle.calls.specs.Table.{listing_on}
use Rattle.report.proofs.Told.{solved_goes_on, unsolved_refused}
use Rattle.report.proofs.print_table.Goals as goal

pub returns-in-Ok : goal.returns-in-Ok
returns-in-Ok g c =
    let next = listing_on (replicate most_listing 0) c.args.sheet.now in
    let same = solved_goes_on c.args.sheet.now (replicate 256 0) c.solve_sheet.ensures.outcome next
    c.in-Ok.solved.minutes (ap answer_of c.in-Ok.is) in
    subst (Prints _ _ _) (sym same) c.print_listing.ensures

pub returns-in-Err : goal.returns-in-Err
returns-in-Err g c =
    let next = listing_on (replicate most_listing 0) c.args.sheet.now in
    let same = unsolved_refused c.args.sheet.now (replicate 256 0) c.solve_sheet.ensures.outcome next _
    (ap answer_of c.in-Err.is) in
    subst (Prints _ _ _) (sym same) c.print_refusal.ensures
