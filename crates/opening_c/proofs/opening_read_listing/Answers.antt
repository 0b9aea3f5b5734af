-- `opening_read_listing` meets its contract: what was read into minutes is written as pairs. Assumes nothing.
use Rattle.calls.specs.Lent.{in_pairs}
use Rattle.calls.specs.Recover.{recovering_into}
use Rattle.calls.proofs.Benched.{benched}
use Rattle.calls.proofs.Clauses.{recover-clauses}
use Rattle.opening_c.proofs.Fills.{reader_fills}
use Rattle.opening_c.proofs.Pairs.{from_zeros}
use Rattle.opening_c.proofs.Told.{left-tells}
use Rattle.opening_c.proofs.opening_read_listing.Goals as goal

pub returns : goal.returns
returns c =
    let sheet = c.args.sheet.now in
    let printed = c.args.printed.now in
    let b = c.args.table.now in
    let h = from_zeros _ (reader_fills sheet printed) b _ c.room-lent.ensures c.read_listing-written.ensures.outcome
    c.packed_table.ensures in
    let t = left-tells (recovering_into sheet printed (in_pairs b)) h (benched.recoverer_holds sheet printed b) in
    let w = recover-clauses sheet printed (in_pairs b) _ _ t.values h.memory in
    record { outcome = h; refusals = w.refusals; reads_back = w.reads_back; unused = t.unused }
