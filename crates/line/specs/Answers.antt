-- What the readers of a line answer: the cause of the first test that fails, or what the line holds.
use Rattle.std.specs.Prelude.{List, ℕ, Result, Ok, Err, length}
use Rattle.std.proofs.Math.Option.{Option, none, some}
use Rattle.prelude.specs.Bytes.{ascii}
use Rattle.prelude.specs.Checks.{first_failing_lem}
use Rattle.text.specs.Lines.{line_feed, up_to, fields}
use Rattle.refusal.specs.declared.Cause.{Cause}
use Rattle.network.specs.declared.Network.{Network}
use Rattle.line.specs.Tests.{Tests, line_tests, section_tests, second_number}
use Rattle.line.specs.Sections.{Heading, own_tests, entry_of}
use Rattle.line.specs.declared.Section.{Section}
use Rattle.line.specs.declared.heading.CountLine.{CountLine}
use Rattle.line.specs.declared.entry.Entry.{Entry}
use Rattle.line.specs.declared.entry.Line.{Line}

module _ {A : Type 0} where
  -- a cause, or what is read where there is none
  abbrev pub answer : Option Cause → A → Result A Cause
  answer (some c) x = Err c
  answer none x = Ok x

  -- of tests in checking order
  abbrev pub passing : Tests → A → Result A Cause
  passing ts x = answer (first_failing_lem ts) x

-- of a line without its line feed, by its fields
module _ (line : List ℕ) where
  abbrev pub section_by : List ℕ → ℕ → ℕ → Result ℕ Cause
  section_by word lo hi = passing (section_tests word lo hi (fields line)) (second_number (fields line))

  abbrev pub entry_by : Section → List ℕ → Network → Result Entry Cause
  entry_by s sheet Γ = passing (own_tests sheet s Γ (fields line)) (entry_of sheet s Γ (fields line))

-- of the line that begins here
module _ (rest : List ℕ) where
  abbrev line : List ℕ
  line = up_to line_feed rest

  abbrev pub section_at : List ℕ → ℕ → ℕ → Result CountLine Cause
  section_at word lo hi =
      passing (line_tests rest (section_tests word lo hi))
      (record { count = second_number (fields line); length = length line })

  abbrev pub heading_at : Heading → Result CountLine Cause
  heading_at h = section_at (ascii h.word) h.least h.most

  abbrev pub entry_at : Section → List ℕ → Network → Result Line Cause
  entry_at s sheet Γ =
      passing (line_tests rest (own_tests sheet s Γ))
      (record { entry = entry_of sheet s Γ (fields line); length = length line })
