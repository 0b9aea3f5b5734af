-- `opening_house` meets its contract: a house form is short. Assumes nothing.
use Rattle.calls.specs.Calls.{housed}
use Rattle.calls.proofs.Small.{house_small}
use Rattle.calls.proofs.Benched.{benched}
use Rattle.calls.proofs.Clauses.{house-clauses}
use Rattle.opening_c.proofs.Told.{left-tells, packed-left}
use Rattle.opening_c.proofs.opening_house.Goals as goal

pub packed_written-requires : goal.packed_written-requires
packed_written-requires c =
    let left = c.write_house.ensures.outcome in
    rw left.answer (house_small c.args.sheet.now c.args.out.now)

pub returns : goal.returns
returns c =
    let sheet = c.args.sheet.now in
    let m = c.args.out.now in
    let h = packed-left (housed sheet m) c.write_house.ensures.outcome c.packed_written.ensures in
    let t = left-tells (housed sheet m) h (benched.house_holds sheet m) in
    let w = house-clauses sheet m _ _ t.values h.memory in
    record { outcome = h; refusals = w.refusals; form = w.form; unused = t.unused }
