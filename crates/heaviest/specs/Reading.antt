-- What reading a line answers: the two numbers that it asks for, or a refusal. It is refused as a sheet of one line is:
-- for its length, then on its first line, and then for bytes behind that.
use Rattle.std.specs.Prelude.{true, false, List, ℕ, leb, length, Result, Ok, Err}
use Rattle.text.specs.Lines.{after_line}
use Rattle.refusal.specs.Refusal.{refusal}
use Rattle.refusal.specs.declared.Cause.TheVariants as C
use Rattle.refusal.specs.declared.Refusal.{Refusal}
use Rattle.network.specs.Limits as L
use Rattle.line.specs.Answers.{passing}
use Rattle.line.specs.TwoCounts.{two_counts_at}
use Rattle.line.specs.declared.two_counts.Range.{Range}
use Rattle.line.specs.declared.two_counts.CountsLine.{CountsLine}
use Rattle.sheet.specs.Reading.{longest, on_line, end_tests}
use Rattle.heaviest.specs.Asks.{fewest}

abbrev pub event_range : Range
event_range = record { least = fewest; most = L.events }

abbrev pub horizon_range : Range
horizon_range = record { least = 0; most = L.horizon }

module _ (text : List ℕ) where
  -- behind the first line no byte may stand
  abbrev pub alone : Result CountsLine Refusal → Result (ℕ × ℕ) Refusal
  alone (Err r) = Err r
  alone (Ok l) = on_line 2 (passing (end_tests text (after_line text 0)) (l.counts.first, l.counts.second))

  unfoldable pub reading : Result (ℕ × ℕ) Refusal
  reading =
      elim (leb (length text) longest) [
        | false ↦ Err (refusal C.TooLong 0)
        | true ↦ alone (on_line 1 (two_counts_at text event_range horizon_range))
      ]
