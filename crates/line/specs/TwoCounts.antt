-- A line of two counts, each in its range: its tests in checking order, and what its reader answers. Both numbers are
-- well formed before a range is asked for, so that on the line the lowest number decides, whichever field it is of.
use Rattle.std.specs.Prelude.{◌&&◌, cond, List, [], ◌∷◌, ℕ, eqb, ltb, Result, Ok, Err, length}
use Rattle.text.specs.Lines.{line_feed, up_to, fields, field}
use Rattle.text.specs.Number.{is_number, in_range, magnitude}
use Rattle.refusal.specs.Refusal.{number_of}
use Rattle.refusal.specs.declared.Cause.{Cause}
use Rattle.refusal.specs.declared.Cause.TheVariants as C
use Rattle.line.specs.Tests.{Tests, line_tests}
use Rattle.line.specs.Answers.{passing}
use Rattle.line.specs.declared.two_counts.Range.{Range}
use Rattle.line.specs.declared.two_counts.Counts.{Counts}
use Rattle.line.specs.declared.two_counts.CountsLine.{CountsLine}

unfoldable pub two_counts_tests : Range → Range → List (List ℕ) → Tests
two_counts_tests r q fs =
    (eqb (length fs) 2, C.WrongFields)
    ∷ (is_number (field 0 fs) && is_number (field 1 fs), C.IllFormedNumber)
    ∷ (in_range r.least r.most (field 0 fs) && in_range q.least q.most (field 1 fs), C.OutOfRange)
    ∷ []

abbrev pub two_counts_of : List (List ℕ) → Counts
two_counts_of fs = record { first = magnitude (field 0 fs); second = magnitude (field 1 fs) }

-- of a line without its line feed, by its fields
abbrev pub two_counts_by : List ℕ → Range → Range → Result Counts Cause
two_counts_by line r q = passing (two_counts_tests r q (fields line)) (two_counts_of (fields line))

-- of the line that begins here
abbrev pub two_counts_at : List ℕ → Range → Range → Result CountsLine Cause
two_counts_at rest r q =
    let line = up_to line_feed rest in
    passing (line_tests rest (two_counts_tests r q))
    (record { counts = two_counts_of (fields line); length = length line })

-- two counts that were read each by itself: where both are refused, the lower number decides
abbrev pub both_lem : Result ℕ Cause → Result ℕ Cause → Result Counts Cause
both_lem (Ok n) (Ok m) = Ok (record { first = n; second = m })
both_lem (Ok n) (Err d) = Err d
both_lem (Err c) (Ok m) = Err c
both_lem (Err c) (Err d) = Err (cond (ltb (number_of d) (number_of c)) d c)
