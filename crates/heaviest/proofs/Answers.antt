-- What reading a line answers: the two numbers that it asks for, or its fault. Assumes nothing.
use mathlib.Core.Path.{◌≡◌, refl, ◌∙◌, ap}
use mathlib.Core.Logic.{inl, inr}
use mathlib.Core.Option.{Option, none, some}
use mathlib.Core.List.{List, append-nil}
use Prim.Native.Nat.{ℕ, zero, suc, ◌≤◌}
use native.Mathlib.Omega.{arith}
use borrow.Author.Tests.{leb-true, leb-false, ltb-false, not-true}
use lib.Dec.{leb, ltb}
use lib.ListN.{length}
use Rattle.std.specs.Prelude.{Result, Ok, Err}
use Rattle.prelude.specs.Checks.{first_failing_lem, Hold}
use Rattle.prelude.proofs.Checks.{hold, none_fails, first_fails}
use Rattle.prelude.proofs.Tests.{by_test}
use Rattle.text.specs.Lines.{line_at, after_line, fields}
use Rattle.text.proofs.Lines.{drop-end}
use Rattle.text.proofs.Written.{line_of, line_read}
use Rattle.refusal.specs.Refusal.{refusal}
use Rattle.refusal.specs.declared.Cause.{Cause}
use Rattle.refusal.specs.declared.Refusal.{Refusal}
use Rattle.line.specs.Answers.{answer}
use Rattle.line.specs.TwoCounts.{two_counts_tests, two_counts_of}
use Rattle.line.proofs.TwoCounts.{two_counts-read}
use Rattle.sheet.specs.Reading.{longest, on_line}
use Rattle.heaviest.specs.Asks.{Asks}
use Rattle.heaviest.specs.Reading.{event_range, horizon_range, alone, reading}
use Rattle.heaviest.specs.Fault.{tests, Fault}

module _ (text : List ℕ) where
  abbrev fs : List (List ℕ)
  fs = fields (line_at text 0)

  -- both lines hold their tests, and so every line
  all_hold : Hold (tests text 0) → Hold (tests text 1) → (j : ℕ) → Hold (tests text j)
  all_hold f g zero = f
  all_hold f g (suc j) = g

  -- where they do, the line asks for its two numbers
  asks : Hold (tests text 0) → Hold (tests text 1) → Asks text (two_counts_of fs).first (two_counts_of fs).second
  asks f g =
      let two = two_counts_tests event_range horizon_range fs in
      let p = two_counts-read event_range horizon_range fs (none_fails two f.1) in
      let end : length text ≤ after_line text 0 =
      ltb-false (after_line text 0) (length text) (not-true (ltb (after_line text 0) (length text)) g.0) in
      record {
        some = p.first.0;
        few = p.first.1;
        horizon = p.second.1;
        written = line_read text 0 f.0
            ∙ rw (drop-end text (after_line text 0) end) (append-nil (line_of fs))
            ∙ ap line_of p.written;
      }

  abbrev pub Answers : Result (ℕ × ℕ) Refusal → Type 0
  Answers (Err r) = Fault text r
  Answers (Ok p) = (length text ≤ longest) × ((j : ℕ) → Hold (tests text j)) × Asks text p.0 p.1

  -- a line at fault
  module _ (short : length text ≤ longest) where
    on_first : (c : Cause) → first_failing_lem (tests text 0) ≡ some c → Fault text (refusal c 1)
    on_first c e = inr (
      short,
      record {
        above = 0;
        line = refl;
        pass = λ j l. absurd (omega arith);
        fault = first_fails (tests text 0) c e;
      },
    )

    on_second : Hold (tests text 0) → (c : Cause) → first_failing_lem (tests text 1) ≡ some c
        → Fault text (refusal c 2)
    on_second f c e = inr (
      short,
      record {
        above = 1;
        line = refl;
        pass = λ j l. let first : j ≡ 0 = omega arith in rw first f;
        fault = first_fails (tests text 1) c e;
      },
    )

    -- by what fails on each of the two lines
    behind : Hold (tests text 0) → (o : Option Cause) → first_failing_lem (tests text 1) ≡ o
        → Answers (on_line 2 (answer o ((two_counts_of fs).first, (two_counts_of fs).second)))
    behind f (some c) e = on_second f c e
    behind f none e =
        let g = hold (tests text 1) e in
        (short, all_hold f g, asks f g)

    first : (o : Option Cause) → first_failing_lem (tests text 0) ≡ o
        → Answers (alone text (on_line 1
        (answer o (record { counts = two_counts_of fs; length = length (line_at text 0) }))))
    first (some c) e = on_first c e
    first none e = behind (hold (tests text 0) e) (first_failing_lem (tests text 1)) refl

  pub answers : Answers (reading text)
  unfolding reading
  answers =
      by_test (λ r. Answers r) (leb (length text) longest) _ _
      (λ e. first (leb-true (length text) longest e) (first_failing_lem (tests text 0)) refl)
      (λ e. inl (leb-false (length text) longest e, refl))
