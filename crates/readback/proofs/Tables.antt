-- Laws of the pass over the minutes, where the form is right: the rows stand where they should (`row_at`), the cells
-- are the table that they hold (`Reading_rows`). Assumes nothing.
use mathlib.Core.Path.{◌≡◌, refl, sym, ◌∙◌, ap}
use mathlib.Core.Logic.{inl, inr}
use mathlib.Core.Bool.{true}
use mathlib.Core.Option.{none}
use mathlib.Core.List.{List}
use Prim.Native.Nat.{ℕ, suc, ◌+◌, ◌-◌, ◌*◌, ◌^◌, ◌≤◌, ◌<◌}
use native.Mathlib.Nat.{mul-le-mul_right, mul_comm}
use native.Mathlib.Omega.{arith}
use borrow.Rule.Slice.PartMut.{put_mid, mid_of}
use Rattle.std.specs.Prelude.{Option, Some, None, Ok, Err, ⊤}
use lib.ListN.{length, get_or, take, drop}
use Rattle.prelude.proofs.Options.{then_some_none, then_some_some}
use Rattle.prelude.specs.Search.{first_below}
use Rattle.prelude.proofs.Tests.{zero-is-one, and-true, lt_or_ge}
use Rattle.prelude.proofs.Search.{Searching, searching_start, searching_on, found_at, found_nothing}
use Rattle.prelude.proofs.Search.{or_else_none, unless-true, all_pass}
use Rattle.prelude.proofs.Cells.{row_of_lem, column_of}
use Rattle.text.specs.Lines.{line_feed, up_to, fields, line_at, ends_at}
use Rattle.text.proofs.Lines.{take-drop, take_up_to, line-inside}
use Rattle.network.specs.Limits as L
use Rattle.listing.proofs.Truths.{few-scenarios}
use Rattle.readback.specs.Rows.{is_row_lem, line_number_lem, place_of, row_of, cell_of, row_fits_lem, row_misfit}
use Rattle.readback.specs.Rows.{rows_misfit}
use Rattle.readback.specs.Rows.{row_unread, rows_unread}
use Rattle.readback.specs.Answers.{RowRead, RowsRead}
use Rattle.readback.specs.declared.Unread.TheVariants as U
use Rattle.readback.proofs.Part.{part_count, part-size, part-before, part-inside}
use Rattle.readback.proofs.Passes.{count_of_row, next_place}

-- there is room for the cells of row s, and for all
module _ (k n : ℕ) (h : k ≤ L.signals) (g : n ≤ L.events) where
  pub cells-room : (s : ℕ) → s < 2 ^ k → s * n + n ≤ L.cells
  cells-room s l =
      let most : suc s ≤ L.cases = omega (arith, few-scenarios k h) in
      omega (arith, mul-le-mul_right n most)

  pub all_room : n * 2 ^ k ≤ L.cells
  all_room =
      let most : 2 ^ k ≤ L.cases = few-scenarios k h in
      rw (mul_comm n (2 ^ k)) (omega (arith, mul-le-mul_right n most))

-- the pass has come to the row of s, which begins at this place: the rows below s have minutes only, and the cells of
-- these are filled
pub record Reading_rows (bytes : List ℕ) (first k n : ℕ) (times : List ℕ) (s at : ℕ) : Type 0 where
  pub searching : Searching (row_unread bytes first k n) (2 ^ k) s
  pub place : at ≡ place_of bytes first s
  pub inside : at ≤ length bytes
  pub sized : length times ≡ L.cells
  pub done : (i : ℕ) → i < s * n → get_or times i 0 ≡ cell_of bytes first n i

-- the row of s is the part that begins here, and whose end a scan has found e bytes further on
pub record RowAt (bytes : List ℕ) (first n s at e : ℕ) : Type 0 where
  pub line : take (at + e - at) (drop at bytes) ≡ row_of bytes first s
  pub inside : at + e + 1 ≤ length bytes
  pub count : length (fields (row_of bytes first s)) ≡ n + 1
  pub place : at + e + 1 ≡ place_of bytes first (s + 1)

pub rows_start : (bytes : List ℕ) (first k n : ℕ) (times : List ℕ) → first ≤ length bytes → length times ≡ L.cells
    → Reading_rows bytes first k n times 0 first
rows_start bytes first k n times h g = record {
  searching = searching_start (row_unread bytes first k n) (2 ^ k);
  place = refl;
  inside = h;
  sized = g;
  done = λ i l. absurd (omega arith);
}

-- where the form is right, each row fits
row_fits : (bytes : List ℕ) (first k n : ℕ) → rows_misfit bytes first k n ≡ none → (s : ℕ) → s < 2 ^ k
    → row_fits_lem bytes first k n s ≡ true
unfolding rows_misfit
row_fits bytes first k n e =
    all_pass (row_fits_lem bytes first k n) line_number_lem (2 ^ k)
    (or_else_none (first_below (2 ^ k) (row_misfit bytes first k n)) _ e).0

module _ {bytes : List ℕ} {first k n : ℕ} {times : List ℕ} {s at : ℕ}
    (here : Reading_rows bytes first k n times s at) where
  pub row_at : rows_misfit bytes first k n ≡ none → s < 2 ^ k → (e : ℕ)
      → e ≡ length (up_to line_feed (take (length bytes - at) (drop at bytes))) → RowAt bytes first n s at e
  row_at right h e q =
      let size : e ≡ length (line_at bytes at) = rw (take-drop bytes at) at q in
      let back : at + e - at ≡ e = omega arith in
      let p = and-true (ends_at bytes (place_of bytes first s)) (is_row_lem k n s (row_of bytes first s))
      (row_fits bytes first k n right s h) in
      let ends : ends_at bytes at ≡ true = rw here.place p.0 in
      record {
        line = rw (back, size) (take_up_to line_feed (drop at bytes)) ∙ ap (λ (a : ℕ). line_at bytes a) here.place;
        inside = omega (arith, line-inside bytes at ends);
        count = (count_of_row k n s (row_of bytes first s) p.1).0;
        place = next_place bytes first s at e here.place size;
      }

  -- the cells of row s, where the reading of its line leaves them so
  module _ (h : s < 2 ^ k) (room : s * n + n ≤ length times) where
    abbrev cells : List ℕ
    cells = mid_of (s * n) n times

    pub cells_count : length cells ≡ n
    cells_count = part_count (s * n) n times room

    module _ {row : List ℕ} {r : Option ⊤} (read : RowRead (row_of bytes first s) cells row r) where
      pub rows_next : r ≡ Some tt → (next : ℕ) → next ≡ place_of bytes first (s + 1) → next ≤ length bytes
          → Reading_rows bytes first k n (put_mid (s * n) n times row) (s + 1) next
      rows_next e next p l = record {
        searching =
            searching_on here.searching h
            (unless-true _ _ (rw cells_count at (then_some_some _ _ _ (sym read.answer ∙ e)).0));
        place = p;
        inside = l;
        sized = part-size (s * n) n times room row read.sized ∙ here.sized;
        done = λ i b.
            elim (lt_or_ge i (s * n)) [
              | inl g ↦ part-before (s * n) n times room row read.sized i g ∙ here.done i g
              | inr g ↦
                  let u = i - s * n in
                  let q : i ≡ s * n + u = omega arith in
                  let small : u < n = omega arith in
                  rw (q, row_of_lem n s u small, column_of n s u small)
                  (part-inside (s * n) n times room row read.sized u small
                  ∙ read.times e u (omega (arith, cells_count)))
            ];
      }

      pub rows-fault : r ≡ None
          → RowsRead bytes first k n (put_mid (s * n) n times row) (Err (U.NoMinute (line_number_lem s)))
      unfolding rows_unread
      rows-fault e =
          let none = then_some_none _ _ (sym read.answer ∙ e) in
          record {
            answer = rw (found_at here.searching (line_number_lem s) h (rw (rw cells_count at none)));
            sized = part-size (s * n) n times room row read.sized ∙ here.sized;
            times = λ z. zero-is-one cc;
          }

  pub rows_all : 2 ^ k ≤ s → RowsRead bytes first k n times (Ok tt)
  unfolding rows_unread
  rows_all h =
      let all : s ≡ 2 ^ k = omega (arith, here.searching.within) in
      record {
        answer = rw (found_nothing here.searching h);
        sized = here.sized;
        times = λ z i l. here.done i (rw (all, mul_comm (2 ^ k) n) l);
      }
