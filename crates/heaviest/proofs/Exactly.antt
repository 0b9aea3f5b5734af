-- Reading a line answers two numbers exactly where the line asks for them, and a refusal exactly where that is its
-- fault. Assumes nothing.
use mathlib.Core.Path.{◌≡◌, sym, ◌∙◌, ap}
use mathlib.Core.Logic.{◌↔◌}
use mathlib.Core.Option.{none}
use mathlib.Core.List.{List, [], ◌∷◌, append-nil}
use Prim.Native.Nat.{ℕ, ◌≤◌}
use native.Mathlib.Omega.{arith}
use lib.ListN.{length, length-drop}
use Rattle.std.specs.Prelude.{Result, Ok, Err}
use Rattle.prelude.specs.Checks.{first_failing_lem}
use Rattle.prelude.proofs.Checks.{◌&◌}
use Rattle.text.specs.Lines.{line, line_at, after_line, fields}
use Rattle.text.specs.Decimal.{decimal}
use Rattle.text.proofs.Decimal.{length-decimal_16}
use Rattle.text.proofs.Numbers.{magnitude-decimal, plain-decimal}
use Rattle.text.proofs.Written.{IsRead, is_read}
use Rattle.refusal.specs.declared.Refusal.{Refusal}
use Rattle.line.specs.TwoCounts.{two_counts_of}
use Rattle.line.specs.declared.two_counts.CountsLine.{CountsLine}
use Rattle.line.proofs.TwoCounts.{two_counts-passes}
use Rattle.sheet.specs.Reading.{longest}
use Rattle.sheet.proofs.Fault.{fault_unique, no_fault}
use Rattle.layout.proofs.Lengths.{length-line, length-field}
use Rattle.heaviest.specs.Asks.{Asks}
use Rattle.heaviest.specs.Reading.{event_range, horizon_range, reading}
use Rattle.heaviest.specs.Fault.{tests, Fault}
use Rattle.heaviest.proofs.Answers.{Answers, answers}
use Rattle.heaviest.proofs.ByLine.{first, read_all}

-- a line that asks for two numbers is read as them
module _ {text : List ℕ} {n h : ℕ} (a : Asks text n h) where
  is : IsRead text 0 (decimal n ∷ decimal h ∷ []) []
  is =
      is_read text 0 (decimal n) (decimal h ∷ []) [] (plain-decimal n & plain-decimal h & tt)
      (a.written ∙ sym (append-nil (line (decimal n) (decimal h ∷ []))))

  abbrev l : CountsLine
  l = record { counts = record { first = n; second = h }; length = length (line_at text 0) }

  passes : first_failing_lem (tests text 0) ≡ none
  passes =
      rw (is.ends, is.fields_are)
      (two_counts-passes event_range horizon_range n h a.some a.few (omega arith) a.horizon)

  counts : two_counts_of (fields (line_at text 0)) ≡ l.counts
  counts = rw (is.fields_are, magnitude-decimal n, magnitude-decimal h)

  first-is : first text ≡ Ok l
  first-is = rw (passes, counts)

  end : length text ≤ after_line text 0
  end = omega (arith, ap length is.behind, length-drop (after_line text 0) text)

  short : length text ≤ longest
  short =
      omega (
        arith,
        ap length a.written,
        length-field (decimal n) (decimal h) [],
        length-line (decimal h),
        length-decimal_16 n (omega (arith, a.few)),
        length-decimal_16 h (omega (arith, a.horizon)),
      )

  reads : reading text ≡ Ok (n, h)
  reads = read_all text short l first-is (omega (arith, end))

module _ (text : List ℕ) where
  pub read_iff : (n h : ℕ) → (reading text ≡ Ok (n, h)) ↔ Asks text n h
  read_iff n h = (λ e. (rw e at (answers text)).2, λ a. reads a)

  pub refused_iff : (r : Refusal) → (reading text ≡ Err r) ↔ Fault text r
  refused_iff r = (λ e. rw e at (answers text), λ f. by-answer (reading text) (answers text) f)
    where
      by-answer : (o : Result (ℕ × ℕ) Refusal) → Answers text o → Fault text r → o ≡ Err r
      by-answer (Err q) a f = ap Err (fault_unique (tests text) text q r a f)
      by-answer (Ok p) a f = absurd (no_fault (tests text) text r a.0 a.1 f)
