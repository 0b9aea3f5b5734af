-- `opening_convert` meets its contract: a converted sheet is short. Assumes nothing.
use Rattle.calls.specs.Calls.{converting}
use Rattle.calls.proofs.Small.{converting_small}
use Rattle.calls.proofs.Benched.{benched}
use Rattle.calls.proofs.Clauses.{convert-clauses}
use Rattle.opening_c.proofs.Told.{left-tells, packed-left}
use Rattle.opening_c.proofs.opening_convert.Goals as goal

pub packed_written-requires : goal.packed_written-requires
packed_written-requires c =
    let left = c.convert_sheet.ensures.outcome in
    rw left.answer (converting_small c.args.sheet.now c.args.out.now)

pub returns : goal.returns
returns c =
    let sheet = c.args.sheet.now in
    let m = c.args.out.now in
    let h = packed-left (converting sheet m) c.convert_sheet.ensures.outcome c.packed_written.ensures in
    let t = left-tells (converting sheet m) h (benched.converter_holds sheet m) in
    let w = convert-clauses sheet m _ _ t.values h.memory in
    record { outcome = h; refusals = w.refusals; converted = w.converted; unused = t.unused }
