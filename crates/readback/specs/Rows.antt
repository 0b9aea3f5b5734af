-- The lines of any bytes, as they are read: where each stands, its texts, whether it fits; and the first that does not.
use Rattle.std.specs.Prelude.{Bool, ◌&&◌, List, ℕ, zero, suc, ◌+◌, ◌*◌, ◌/◌, ◌%◌, ◌^◌, eqb, leb, ltb, length, take}
use Rattle.std.proofs.Math.Option.{Option}
use Rattle.prelude.specs.Search.{or_else, first_below, when, unless}
use Rattle.prelude.specs.Bounded.{all_below, tabulate}
use Rattle.prelude.specs.Bytes.{same}
use Rattle.text.specs.Lines.{fields, field, line_at, ends_at, after_line}
use Rattle.listing.specs.Listing.{scenario_text}
use Rattle.readback.specs.Minute.{is_minute, minute_of}
use Rattle.readback.specs.Form.{longest_read}

-- a line's texts behind its mark
abbrev pub text_in : List ℕ → ℕ → List ℕ
text_in l u = field (suc u) (fields l)

-- the mark of scenario s, and n texts
unfoldable pub is_row_lem : ℕ → ℕ → ℕ → List ℕ → Bool
is_row_lem k n s l = eqb (length (fields l)) (n + 1) && same (field 0 (fields l)) (scenario_text k s)

-- each text is a minute
unfoldable pub are_minutes : ℕ → List ℕ → Bool
are_minutes n l = all_below n (λ u. is_minute (text_in l u))

-- the line of a scenario
abbrev pub line_number_lem : ℕ → ℕ
line_number_lem s = s + 2

-- the rows begin at a place of the bytes; there are k signals and n events
module _ (bytes : List ℕ) (first : ℕ) where
  -- where the row of s begins, and its line
  abbrev pub place_of : ℕ → ℕ
  place_of zero = first
  place_of (suc s) = after_line bytes (place_of s)

  abbrev pub row_of : ℕ → List ℕ
  row_of s = line_at bytes (place_of s)

  -- "case 0 first, events in sheet order": the minute of a cell
  abbrev pub cell_of : ℕ → ℕ → ℕ
  cell_of n i = minute_of (text_in (row_of (i / n)) (i % n))

  module _ (k n : ℕ) where
    abbrev pub row_fits_lem : ℕ → Bool
    row_fits_lem s = ends_at bytes (place_of s) && is_row_lem k n s (row_of s)

    abbrev pub row_misfit : ℕ → Option ℕ
    row_misfit s = unless (row_fits_lem s) (line_number_lem s)

    -- the first row that does not fit, or what is left over
    unfoldable pub rows_misfit : Option ℕ
    rows_misfit =
        or_else (first_below (2 ^ k) row_misfit)
        (when (ltb (place_of (2 ^ k)) (length bytes)) (line_number_lem (2 ^ k)))

    abbrev pub row_unread : ℕ → Option ℕ
    row_unread s = unless (are_minutes n (row_of s)) (line_number_lem s)

    -- the first row that has a text that is no minute
    unfoldable pub rows_unread : Option ℕ
    rows_unread = first_below (2 ^ k) row_unread

    -- the table that the rows hold
    unfoldable pub rows_table : List ℕ
    rows_table = tabulate (n * 2 ^ k) (cell_of n)

module _ (head : List ℕ) where
  -- the bytes begin with the header
  abbrev pub header_fits : List ℕ → Bool
  header_fits bytes = same (take (length head) bytes) head

  -- the text of event u in scenario s
  abbrev pub text_of : List ℕ → ℕ → ℕ → List ℕ
  text_of bytes s u = text_in (row_of bytes (length head) s) u

  module _ (k n : ℕ) (bytes : List ℕ) where
    -- the first line that is not this sheet's (18), and the first with a text that is no minute (19)
    unfoldable pub misfit : Option ℕ
    misfit =
        or_else (unless (leb (length bytes) longest_read) 1)
        (or_else (unless (header_fits bytes) 1) (rows_misfit bytes (length head) k n))

    abbrev pub unread : Option ℕ
    unread = rows_unread bytes (length head) k n

    -- the table that the bytes hold
    abbrev pub recovered : List ℕ
    recovered = rows_table bytes (length head) k n
