-- What reading a line answers, by its length and by what its first line was read as. Assumes nothing.
use mathlib.Core.Path.{◌≡◌, sym, ap}
use mathlib.Core.List.{List}
use Prim.Native.Nat.{ℕ, ◌+◌, ◌≤◌, ◌<◌}
use native.Mathlib.Omega.{arith}
use borrow.Author.Tests.{le-leb, lt-leb, lt-ltb, le-ltb}
use lib.ListN.{length}
use Rattle.std.specs.Prelude.{Result, Ok, Err}
use Rattle.prelude.specs.Checks.{first_failing_lem}
use Rattle.prelude.proofs.Checks.{hold, none_fails}
use Rattle.text.specs.Lines.{line_at, after_line, fields}
use Rattle.text.proofs.Lines.{line-inside}
use Rattle.refusal.specs.Refusal.{refusal}
use Rattle.refusal.specs.declared.Cause.TheVariants as C
use Rattle.refusal.specs.declared.Refusal.{Refusal}
use Rattle.network.specs.Limits as L
use Rattle.line.specs.TwoCounts.{two_counts_tests, two_counts_of, two_counts_at}
use Rattle.line.specs.declared.two_counts.CountsLine.{CountsLine}
use Rattle.line.proofs.Refusals.{answer-ok}
use Rattle.line.proofs.TwoCounts.{two_counts-read}
use Rattle.sheet.specs.Reading.{longest, on_line}
use Rattle.sheet.proofs.ReadLine.{on_line-ok}
use Rattle.heaviest.specs.Asks.{fewest}
use Rattle.heaviest.specs.Reading.{event_range, horizon_range, reading}
use Rattle.heaviest.specs.Fault.{tests}

module _ (text : List ℕ) where
  pub read-long : longest < length text → reading text ≡ Err (refusal C.TooLong 0)
  unfolding reading
  read-long h = rw (reading, lt-leb (length text) longest h)

  -- the first line
  abbrev pub first : Result CountsLine Refusal
  first = on_line 1 (two_counts_at text event_range horizon_range)

  -- what is known of its two numbers, and of its length
  pub record First (l : CountsLine) : Type 0 where
    pub some : fewest ≤ l.counts.first
    pub few : l.counts.first ≤ L.events
    pub horizon : l.counts.second ≤ L.horizon
    pub behind : l.length + 1 ≡ after_line text 0
    pub inside : l.length + 1 ≤ length text

  pub first-known : (l : CountsLine) → first ≡ Ok l → First l
  first-known l e =
      let fs = fields (line_at text 0) in
      let read : CountsLine = record { counts = two_counts_of fs; length = length (line_at text 0) } in
      let w = answer-ok (first_failing_lem (tests text 0)) read l
      (on_line-ok 1 (two_counts_at text event_range horizon_range) l (sym e)) in
      let t = hold (tests text 0) w.0 in
      let p =
      two_counts-read event_range horizon_range fs
      (none_fails (two_counts_tests event_range horizon_range fs) t.1) in
      let n = ap (λ (l : CountsLine). l.counts.first) w.1 in
      let h = ap (λ (l : CountsLine). l.counts.second) w.1 in
      let size = ap (λ (l : CountsLine). l.length) w.1 in
      record {
        some = omega (arith, p.first, n);
        few = omega (arith, p.first, n);
        horizon = omega (arith, p.second, h);
        behind = omega (arith, size);
        inside = omega (arith, size, line-inside text 0 t.0);
      }

  module _ (short : length text ≤ longest) where
    pub read_first : (r : Refusal) → first ≡ Err r → reading text ≡ Err r
    unfolding reading
    read_first r e = rw (reading, le-leb (length text) longest short, e)

    module _ (l : CountsLine) (e : first ≡ Ok l) where
      pub read_more : l.length + 1 < length text → reading text ≡ Err (refusal C.TrailingBytes 2)
      unfolding reading
      read_more h =
          let more = lt-ltb (after_line text 0) (length text) (omega (arith, (first-known l e).behind)) in
          rw (reading, le-leb (length text) longest short, e, more)

      pub read_all : length text ≤ l.length + 1 → reading text ≡ Ok (l.counts.first, l.counts.second)
      unfolding reading
      read_all h =
          let end = le-ltb (after_line text 0) (length text) (omega (arith, (first-known l e).behind)) in
          rw (reading, le-leb (length text) longest short, e, end)
