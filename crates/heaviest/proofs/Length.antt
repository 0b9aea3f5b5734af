-- How long the text of a ring is at most: memory of so many bytes is never too short for it. Assumes nothing.
use mathlib.Core.List.{[], ◌∷◌, ◌++◌, map}
use Prim.Native.Nat.{ℕ, ◌-◌, ◌≤◌}
use native.Mathlib.Omega.{arith}
use lib.ListN.{length, length-append}
use Rattle.prelude.specs.Bytes.{ascii}
use Rattle.text.specs.Lines.{line}
use Rattle.text.specs.Decimal.{decimal}
use Rattle.text.proofs.Decimal.{length-decimal_16}
use Rattle.network.specs.Limits as L
use Rattle.layout.specs.Contents.{no_rule}
use Rattle.layout.specs.Layout.{section, signal_line, rule_line}
use Rattle.layout.proofs.Lengths.{length-field, length-count, length-section}
use Rattle.heaviest.specs.RingText.{no_sooner_row, ring_contents, ring_text}
use Rattle.heaviest.specs.Most.{most_row, most_text}
use Rattle.heaviest.proofs.Kept.{names_count, rules_count, each_name, each_row}

length-row : (u v w : ℕ) → w ≤ 1 → length (rule_line (no_sooner_row u v w)) ≤ most_row
length-row u v w l = omega (arith, length-decimal_16 w (omega arith), length-field (decimal w) (ascii "-") [])

pub length-ring : (n h : ℕ) → 2 ≤ n → n ≤ L.events → h ≤ L.horizon → length (ring_text n h) ≤ most_text
unfolding ring_text
length-ring n h some few low =
    let c = ring_contents n h in
    let horizon = line (ascii "horizon") (decimal h ∷ []) in
    let events = section "events" (map (λ n. line n []) c.names) in
    let signals = section "signals" (map signal_line c.signals) in
    let rules = section "rules" (map rule_line c.rules) in
    omega (
      arith,
      length-append (horizon ++ events ++ signals ++ rules ++ []) [],
      length-append (horizon ++ events ++ signals ++ rules) [],
      length-append (horizon ++ events ++ signals) rules,
      length-append (horizon ++ events) signals,
      length-append horizon events,
      length-count (ascii "horizon") h (omega arith),
      length-section "events" 2 L.events (λ n. line n []) [] c.names (omega (arith, names_count n h)) (omega arith)
          (each_name n h (λ n. length (line n []) ≤ 2) (λ u _. omega arith)),
      length-section "rules" most_row (L.events - 1) rule_line no_rule c.rules (omega (arith, rules_count n h))
          (omega arith) (each_row n h some (λ r. length (rule_line r) ≤ most_row) (λ u v w _ _ l. length-row u v w l)),
    )
