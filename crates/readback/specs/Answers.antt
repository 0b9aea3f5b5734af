-- What the functions of the code answer, and what they leave in the tables that they are lent.
use Rattle.std.specs.Prelude.{◌≡◌, List, ◌++◌, ℕ, ◌*◌, ◌^◌, ◌≤◌, ◌<◌, length, drop, get_or}
use Rattle.std.specs.Prelude.{Option, Some, Result, Ok, Err, ⊤}
use Rattle.std.specs.Bool.{then_some}
use Rattle.std.proofs.Math.Option as answer
use Rattle.text.specs.Number.{magnitude}
use Rattle.network.specs.Limits as N
use Rattle.readback.specs.Minute.{in_digits, is_minute, minute_of}
use Rattle.readback.specs.Rows.{text_in, are_minutes, cell_of, rows_unread, rows_table, misfit}
use Rattle.readback.specs.declared.Unread.{Unread}
use Rattle.readback.specs.declared.Unread.TheVariants as U

-- the minute that a text is in digits
abbrev pub digits_in_lem : List ℕ → Option ℕ
digits_in_lem f = then_some (in_digits f) (magnitude f)

-- the minute that a text is
abbrev pub minute_in_lem : List ℕ → Option ℕ
minute_in_lem f = then_some (is_minute f) (minute_of f)

-- the first line at fault, as the pass over the form answers it, and as that over the minutes does
abbrev pub form_answer : answer.Option ℕ → Result ⊤ Unread
form_answer answer.none = Ok tt
form_answer (answer.some l) = Err (U.OtherForm l)

abbrev pub minutes_answer : answer.Option ℕ → Result ⊤ Unread
minutes_answer answer.none = Ok tt
minutes_answer (answer.some l) = Err (U.NoMinute l)

-- the minutes of one line, in the cells of its row; where a text is no minute, nothing is said but the size
pub record RowRead (l before after : List ℕ) (r : Option ⊤) : Type 0 where
  pub answer : r ≡ then_some (are_minutes (length before) l) tt
  pub sized : length after ≡ length before
  pub times : r ≡ Some tt → (u : ℕ) → u < length before → get_or after u 0 ≡ minute_of (text_in l u)

-- each row was read, into the front of the cells, or the first line that has a text that is no minute
pub record RowsRead (bytes : List ℕ) (first k n : ℕ) (after : List ℕ) (r : Result ⊤ Unread) : Type 0 where
  pub answer : r ≡ minutes_answer (rows_unread bytes first k n)
  pub sized : length after ≡ N.cells
  pub times : r ≡ Ok tt → (i : ℕ) → i < n * 2 ^ k → get_or after i 0 ≡ cell_of bytes first n i

-- the rows, whose form is right, and then the room: what is answered, and what is then in the lent table
pub data TimesRead (bytes : List ℕ) (first k n : ℕ) (before : List ℕ) : List ℕ → Result ℕ Unread → Type 0 where
  no_minute : (m : ℕ) → rows_unread bytes first k n ≡ answer.some m
      → TimesRead bytes first k n before before (Err (U.NoMinute m))
  short : rows_unread bytes first k n ≡ answer.none → length before < n * 2 ^ k
      → TimesRead bytes first k n before before (Err U.TooShort)
  full : rows_unread bytes first k n ≡ answer.none → n * 2 ^ k ≤ length before
      → TimesRead bytes first k n before (rows_table bytes first k n ++ drop (n * 2 ^ k) before) (Ok (n * 2 ^ k))

-- the whole listing: the first line that is not the sheet's, or else what its rows say
pub data ReadIs (head : List ℕ) (k n : ℕ) (bytes before : List ℕ) : List ℕ → Result ℕ Unread → Type 0 where
  other-form : (m : ℕ) → misfit head k n bytes ≡ answer.some m
      → ReadIs head k n bytes before before (Err (U.OtherForm m))
  formed : (after : List ℕ) (r : Result ℕ Unread) → misfit head k n bytes ≡ answer.none
      → TimesRead bytes (length head) k n before after r → ReadIs head k n bytes before after r
