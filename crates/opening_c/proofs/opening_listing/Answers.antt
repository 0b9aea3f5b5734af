-- `opening_listing` meets its contract: the table is listed as its bytes are. Assumes nothing.
use mathlib.Core.Path.{◌∙◌, ap}
use mathlib.Core.List.{List}
use Prim.Native.Nat.{ℕ}
use native.Mathlib.Omega.{arith}
use Rattle.pairs.proofs.Packing.{minutes_of-short}
use Rattle.sheet.specs.Reading.{network_of}
use Rattle.calls.specs.Lent.{as_bytes}
use Rattle.calls.specs.Calls.{listed}
use Rattle.calls.specs.Bench.{bench_listed}
use Rattle.calls.specs.Numbers.{bytes}
use Rattle.calls.proofs.Benched.{benched}
use Rattle.calls.proofs.Clauses.{list-clauses}
use Rattle.calls.proofs.Handed.{bytes_rightly}
use Rattle.opening.proofs.Leaves.{leaves_as}
use Rattle.opening_c.proofs.Taken.{taken_listed, taken_small}
use Rattle.opening_c.proofs.Told.{left-tells, packed-left}
use Rattle.opening_c.proofs.opening_listing.Goals as goal

pub packed_written-requires : goal.packed_written-requires
packed_written-requires c =
    let sheet = c.args.sheet.now in
    let b = c.args.table.now in
    let m = c.args.out.now in
    let minutes = c.as_slice.ensures ∙ c.table_of-minutes.ensures in
    let short = minutes_of-short b (λ i. omega (arith, c.type_inv.table i)) in
    rw (c.write_listing.ensures.outcome.answer, minutes) (taken_small b sheet short m)

pub returns : goal.returns
returns c =
    let sheet = c.args.sheet.now in
    let b = c.args.table.now in
    let m = c.args.out.now in
    let minutes = c.as_slice.ensures ∙ c.table_of-minutes.ensures in
    let same = ap (λ (t : List ℕ). listed sheet t m) minutes ∙ taken_listed b sheet m in
    let h = packed-left (bench_listed sheet b m) (leaves_as same c.write_listing.ensures.outcome)
    c.packed_written.ensures in
    let short = minutes_of-short b (λ i. omega (arith, c.type_inv.table i)) in
    let t = left-tells (bench_listed sheet b m) h (benched.lister_holds sheet b m short) in
    let w = list-clauses sheet (as_bytes b) (bytes b) (bytes_rightly b (network_of sheet)) m _ _ t.values h.memory in
    record { outcome = h; refusals = w.refusals; lists = w.lists; unused = t.unused }
