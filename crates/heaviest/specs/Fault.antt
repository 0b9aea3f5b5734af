-- Why a line is refused, said of its tests and of no reader: it is too long, or this is the first line at fault and the
-- first of its tests that fails. The first line has its line feed, two fields, two numbers and both in their ranges; on
-- the second no byte stands.
use Rattle.std.specs.Prelude.{List, ℕ, zero, suc}
use Rattle.text.specs.Lines.{after_line}
use Rattle.refusal.specs.declared.Refusal.{Refusal}
use Rattle.line.specs.Tests.{Tests, line_tests}
use Rattle.line.specs.TwoCounts.{two_counts_tests}
use Rattle.sheet.specs.Reading.{end_tests}
use Rattle.sheet.specs.Fault.{FaultBy}
use Rattle.heaviest.specs.Reading.{event_range, horizon_range}

module _ (text : List ℕ) where
  -- the tests of a line that so many stand above
  abbrev pub tests : ℕ → Tests
  tests zero = line_tests text (two_counts_tests event_range horizon_range)
  tests (suc k) = end_tests text (after_line text 0)

  abbrev pub Fault : Refusal → Type 0
  Fault r = FaultBy tests text r
