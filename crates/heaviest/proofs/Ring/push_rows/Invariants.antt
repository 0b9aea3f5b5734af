-- `Ring::push_rows` meets its contract. The invariant: behind the section's first line, the rows from the events below
-- u are written, that from b the first; the row from the last event closes the ring. Assumes nothing.
use Prim.Native.Nat.{◌-◌, ◌≤◌}
use Rattle.page.proofs.Pushing.{Pushing}
use Rattle.layout.specs.Layout.{rule_line}
use Rattle.heaviest.specs.RingText.{ring_row}
use Rattle.heaviest.specs.Most.{most_row}
use Rattle.heaviest.proofs.Ring.push_rows.Given as goal

abbrev pub invariant-loop-u : goal.invariant-loop-u
invariant-loop-u l =
    (1 ≤ l.u) × Pushing most_row (λ i. rule_line (ring_row l.last i)) l.last l.initial.page (l.u - 1) l.page
