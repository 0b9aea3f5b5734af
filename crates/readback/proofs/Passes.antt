-- Laws of the pass over the form: what decides of a listing and of a line, and the invariant of the pass, `Forming`.
-- Assumes nothing.
use mathlib.Core.Path.{◌≡◌, refl, sym, ◌∙◌, ap}
use mathlib.Core.Bool.{Bool, true, false, ◌&&◌}
use mathlib.Core.Option.{Option, none, some}
use mathlib.Core.List.{List}
use Prim.Native.Nat.{ℕ, ◌+◌, ◌^◌, ◌≤◌, ◌<◌}
use Rattle.std.specs.Prelude.{Ok, Err}
use native.Mathlib.Numerals.{add-one}
use native.Mathlib.Omega.{arith}
use borrow.Author.Tests.{eqb-true, eq-eqb, ne_eqb, le-leb, lt-leb, le-ltb, lt-ltb}
use lib.Dec.{eqb}
use lib.ListN.{length}
use Rattle.prelude.specs.Bytes.{same}
use Rattle.prelude.proofs.Tests.{zero-is-one, and-true}
use Rattle.prelude.proofs.Search.{Searching, searching_start, searching_on, found_at, found_nothing}
use Rattle.text.specs.Lines.{fields, field, line_at, ends_at, after_line}
use Rattle.text.proofs.Lines.{line-inside}
use Rattle.listing.specs.Listing.{scenario_text}
use Rattle.readback.specs.Form.{longest_read}
use Rattle.readback.specs.Rows.{is_row_lem, line_number_lem, place_of, row_fits_lem, row_misfit, rows_misfit}
use Rattle.readback.specs.Rows.{header_fits, misfit}
use Rattle.readback.specs.Answers.{form_answer, minutes_answer}
use Rattle.readback.specs.declared.Unread.{Unread}
use Rattle.readback.specs.declared.Unread.TheVariants as U

-- a listing: its length decides, then its header, then its rows
module _ (head : List ℕ) (k n : ℕ) (bytes : List ℕ) where
  pub length_decides : longest_read < length bytes → misfit head k n bytes ≡ some 1
  unfolding misfit
  length_decides h = rw (lt-leb (length bytes) longest_read h)

  module _ (h : length bytes ≤ longest_read) where
    pub header_decides : header_fits head bytes ≡ false → misfit head k n bytes ≡ some 1
    unfolding misfit
    header_decides e = rw (le-leb (length bytes) longest_read h, e)

    pub rows_decide : header_fits head bytes ≡ true → misfit head k n bytes ≡ rows_misfit bytes (length head) k n
    unfolding misfit
    rows_decide e = rw (le-leb (length bytes) longest_read h, e)

-- a line: the count of its fields decides, then its mark
module _ (k n s : ℕ) (l : List ℕ) where
  pub row_count : (length (fields l) ≡ n + 1 → ⊥) → is_row_lem k n s l ≡ false
  unfolding is_row_lem
  row_count h = rw (ne_eqb (length (fields l)) (n + 1) h)

  pub row_mark : length (fields l) ≡ n + 1 → is_row_lem k n s l ≡ same (field 0 (fields l)) (scenario_text k s)
  unfolding is_row_lem
  row_mark h = rw (eq-eqb (length (fields l)) (n + 1) h)

  pub count_of_row : is_row_lem k n s l ≡ true
      → (length (fields l) ≡ n + 1) × (same (field 0 (fields l)) (scenario_text k s) ≡ true)
  unfolding is_row_lem
  count_of_row e =
      let p = and-true (eqb (length (fields l)) (n + 1)) (same (field 0 (fields l)) (scenario_text k s)) e in
      (eqb-true (length (fields l)) (n + 1) p.0, p.1)

-- what the answer of a pass says
pub form-fault : (o : Option ℕ) (e : Unread) → form_answer o ≡ Err e → (l : ℕ) × (o ≡ some l) × (e ≡ U.OtherForm l)
form-fault none e q = zero-is-one cc
form-fault (some l) e q = (l, refl, cc)

pub form-none : (o : Option ℕ) → form_answer o ≡ Ok tt → o ≡ none
form-none none q = refl
form-none (some l) q = zero-is-one cc

pub minutes-fault : (o : Option ℕ) (e : Unread) → minutes_answer o ≡ Err e → (l : ℕ) × (o ≡ some l) × (e ≡ U.NoMinute l)
minutes-fault none e q = zero-is-one cc
minutes-fault (some l) e q = (l, refl, cc)

pub minutes-none : (o : Option ℕ) → minutes_answer o ≡ Ok tt → o ≡ none
minutes-none none q = refl
minutes-none (some l) q = zero-is-one cc

-- where the row behind that of s begins, seen from where this one does
pub next_place : (bytes : List ℕ) (first s at e : ℕ) → at ≡ place_of bytes first s → e ≡ length (line_at bytes at)
    → at + e + 1 ≡ place_of bytes first (s + 1)
next_place bytes first s at e p q =
    let next : at + e + 1 ≡ after_line bytes at = omega arith in
    next
    ∙ ap (λ (a : ℕ). after_line bytes a) p
    ∙ ap (λ (m : ℕ). place_of bytes first m) (sym (add-one s))

module _ (bytes : List ℕ) (first k n : ℕ) where
  -- the pass over the form has come to the row of s, which begins at this place
  pub record Forming (s at : ℕ) : Type 0 where
    pub searching : Searching (row_misfit bytes first k n) (2 ^ k) s
    pub place : at ≡ place_of bytes first s
    pub inside : at ≤ length bytes

  pub forming-start : first ≤ length bytes → Forming 0 first
  forming-start h =
      record { searching = searching_start (row_misfit bytes first k n) (2 ^ k); place = refl; inside = h }

module _ {bytes : List ℕ} {first k n s at : ℕ} (here : Forming bytes first k n s at) where
  -- the row's own test, at this place
  abbrev fits : Bool
  fits = ends_at bytes at && is_row_lem k n s (line_at bytes at)

  fits-is : row_fits_lem bytes first k n s ≡ fits
  fits-is = ap (λ (a : ℕ). ends_at bytes a && is_row_lem k n s (line_at bytes a)) (sym here.place)

  pub forming-next : s < 2 ^ k → fits ≡ true → (e : ℕ) → e ≡ length (line_at bytes at)
      → Forming bytes first k n (s + 1) (at + e + 1)
  forming-next h g e q =
      let ends = (and-true (ends_at bytes at) (is_row_lem k n s (line_at bytes at)) g).0 in
      record {
        searching = searching_on here.searching h (rw (fits-is, g));
        place = next_place bytes first s at e here.place q;
        inside = omega (arith, line-inside bytes at ends);
      }

  pub forming-fault : s < 2 ^ k → fits ≡ false
      → Err (U.OtherForm (line_number_lem s)) ≡ form_answer (rows_misfit bytes first k n)
  unfolding rows_misfit
  forming-fault h g = rw (found_at here.searching (line_number_lem s) h (rw (fits-is, g)))

  at-end : 2 ^ k ≤ s → at ≡ place_of bytes first (2 ^ k)
  at-end h =
      let all : s ≡ 2 ^ k = omega (arith, here.searching.within) in
      here.place ∙ ap (λ (m : ℕ). place_of bytes first m) all

  pub forming_over : 2 ^ k ≤ s → at < length bytes
      → Err (U.OtherForm (line_number_lem (2 ^ k))) ≡ form_answer (rows_misfit bytes first k n)
  unfolding rows_misfit
  forming_over h l = rw (found_nothing here.searching h, ← at-end h, lt-ltb at (length bytes) l)

  pub forming-all : 2 ^ k ≤ s → length bytes ≤ at → Ok tt ≡ form_answer (rows_misfit bytes first k n)
  unfolding rows_misfit
  forming-all h l = rw (found_nothing here.searching h, ← at-end h, le-ltb at (length bytes) l)
