-- `opening_ring` meets its contract: the heaviest sheets are short. Assumes nothing.
use Rattle.calls.specs.Calls.{ringing}
use Rattle.calls.proofs.Ringing.{ringing_small}
use Rattle.calls.proofs.Benched.{benched}
use Rattle.calls.proofs.Clauses.{ring-clauses}
use Rattle.opening_c.proofs.Told.{left-tells, packed-left}
use Rattle.opening_c.proofs.opening_ring.Goals as goal

pub packed_written-requires : goal.packed_written-requires
packed_written-requires c =
    let left = c.write_ring.ensures.outcome in
    rw left.answer (ringing_small c.args.line.now c.args.out.now)

pub returns : goal.returns
returns c =
    let line = c.args.line.now in
    let m = c.args.out.now in
    let h = packed-left (ringing line m) c.write_ring.ensures.outcome c.packed_written.ensures in
    let t = left-tells (ringing line m) h (benched.ring_holds line m) in
    let w = ring-clauses line m _ _ t.values h.memory in
    record { outcome = h; refusals = w.refusals; heaviest = w.heaviest; unused = t.unused }
