use mathlib.Core.Path.{ap}
use Prim.Native.Nat.{ℕ, ◌-◌, ◌≤◌}
use native.Mathlib.Omega.{arith}
use Rattle.prelude.proofs.Mapped.{map-tabulate}
use Rattle.page.proofs.Pushed.{pushed_as}
use Rattle.page.proofs.Pushing.{pushing-next, pushing-all}
use Rattle.layout.specs.Layout.{rule_line}
use Rattle.heaviest.specs.RingText.{ring_row}
use Rattle.heaviest.specs.Most.{most_row}
use Rattle.layout.proofs.Pushed.{section_pushed}
use Rattle.heaviest.proofs.Rows.{row_on, row_back, count_on}
use Rattle.heaviest.proofs.Ring.push_rows.Goals as goal

pub loop-u-preserved : goal.loop-u-preserved
loop-u-preserved c =
    let m : ℕ = c.args.self.now.events - 1 in
    let u = c.loop-u.u in
    let here = c.loop-u.invariant in
    let row = ap rule_line (row_on m u here.0 (omega (arith, c.loop-u-test.true))) in (
      omega arith,
      count_on u here.0 (pushing-next here.1 {j = most_row} (omega (arith, c.loop-u-test.true))
          (pushed_as row c.push_row.ensures (omega arith)) (omega arith)),
    )

pub returns : goal.returns
returns c =
    let m : ℕ = c.args.self.now.events - 1 in
    let here = c.loop-u.invariant in
    let some : 1 ≤ m = omega (arith, c.args.self.now.some) in
    section_pushed "rules" _ m (λ i. rule_line (ring_row m i)) (map-tabulate rule_line (ring_row m) m)
    (rw c.from.ensures at c.push_count.ensures)
    (pushing-all
    (pushing-next here.1 {j = most_row} (omega (arith, here.1.within))
    (pushed_as (ap rule_line (row_back m (c.loop-u.u - 1) (omega arith))) c.push_row-2.ensures (omega arith))
    (omega arith))
    (omega arith))
    (omega (arith, c.args.self.now.few))
