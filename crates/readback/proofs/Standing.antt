-- A row as it is written and as it is read: where the line of a scenario stands over texts without comma and line
-- feed, it fits and has these texts (`row-stands`); and a line that fits stands there over its own texts
-- (`row_read`). Assumes nothing.
use mathlib.Core.Path.{◌≡◌, ◌∙◌, ap}
use mathlib.Core.Bool.{true, ◌&&◌}
use mathlib.Core.List.{List, [], ◌++◌}
use Prim.Native.Nat.{ℕ, suc, ◌+◌, ◌<◌}
use native.Mathlib.Omega.{arith}
use lib.ListN.{length, drop}
use Rattle.prelude.specs.Bytes.{every, same}
use Rattle.prelude.specs.Bounded.{tabulate}
use Rattle.prelude.proofs.Tests.{and-true, and_both}
use Rattle.prelude.proofs.Bytes.{same_true, same_refl}
use Rattle.prelude.proofs.Bounded.{length-tabulate, get_d_tabulate}
use Rattle.text.specs.Lines.{plain, line, fields, field, line_at, ends_at, after_line}
use Rattle.text.proofs.Written.{is_read, line_read, plain-fields}
use Rattle.text.proofs.Tabulated.{plain-tabulate, plain-field, first_rest}
use Rattle.listing.specs.Listing.{scenario_text, line_over}
use Rattle.listing.proofs.Truths.{plain-scenario}
use Rattle.readback.specs.Rows.{text_in, is_row_lem}
use Rattle.readback.proofs.Passes.{count_of_row, row_mark}

-- what is read has no comma and no line feed
pub plain-text : (bytes : List ℕ) (at u : ℕ) → every plain (text_in (line_at bytes at) u) ≡ true
plain-text bytes at u = plain-field (suc u) (fields (line_at bytes at)) (plain-fields (drop at bytes))

module _ (k n : ℕ) (bytes : List ℕ) (s at : ℕ) where
  -- a line that stands is read
  pub record RowStands (texts : ℕ → ℕ → List ℕ) (rest : List ℕ) : Type 0 where
    pub fits : ends_at bytes at && is_row_lem k n s (line_at bytes at) ≡ true
    pub same_texts : (u : ℕ) → u < n → text_in (line_at bytes at) u ≡ texts s u
    pub behind : drop (after_line bytes at) bytes ≡ rest

  pub row-stands : (texts : ℕ → ℕ → List ℕ) (rest : List ℕ) → ((u : ℕ) → u < n → every plain (texts s u) ≡ true)
      → drop at bytes ≡ line_over k n texts s ++ rest → RowStands texts rest
  row-stands texts rest p e =
      let gs = tabulate n (texts s) in
      let w = is_read bytes at (scenario_text k s) gs rest (plain-scenario s k, plain-tabulate (texts s) n p) e in
      let l = line_at bytes at in
      let count : length (fields l) ≡ n + 1 = rw w.fields_are (omega (arith, length-tabulate (texts s) n)) in
      let mark : same (field 0 (fields l)) (scenario_text k s) ≡ true =
      rw w.fields_are (same_refl (scenario_text k s)) in
      record {
        fits = and_both (ends_at bytes at) (is_row_lem k n s l) w.ends (row_mark k n s l count ∙ mark);
        same_texts = λ u h. rw w.fields_are (get_d_tabulate (texts s) n u [] h);
        behind = w.behind;
      }

  -- a line that fits stands there, over its own texts
  pub row_read : ends_at bytes at && is_row_lem k n s (line_at bytes at) ≡ true
      → drop at bytes ≡ line_over k n (λ r u. text_in (line_at bytes at) u) s ++ drop (after_line bytes at) bytes
  row_read e =
      let l = line_at bytes at in
      let p = and-true (ends_at bytes at) (is_row_lem k n s l) e in
      let q = count_of_row k n s l p.1 in
      line_read bytes at p.0
      ∙ ap (λ (t : List ℕ). t ++ drop (after_line bytes at) bytes)
      (first_rest (fields l) n q.0
      ∙ ap (λ (f : List ℕ). line f (tabulate n (text_in l))) (same_true (field 0 (fields l)) (scenario_text k s) q.1))
