-- No 18 exactly where the bytes are a listing of this sheet over some texts, and no longer than a listing may be
-- (`formed_iff`); the texts are then those that are read (`texts-read`). Assumes nothing.
use mathlib.Core.Path.{◌≡◌, sym, ◌∙◌, ap}
use mathlib.Core.Logic.{◌↔◌}
use mathlib.Core.Bool.{Bool}
use mathlib.Core.Option.{Option, none}
use mathlib.Core.List.{List, [], ◌++◌, append-nil}
use Prim.Native.Nat.{ℕ, ◌^◌, ◌≤◌, ◌<◌}
use native.Mathlib.Omega.{arith}
use borrow.Author.Tests.{leb-true, le-ltb, ltb-false}
use lib.Dec.{leb, ltb}
use lib.ListN.{length, length-drop, drop_of_length-le}
use Rattle.prelude.specs.Search.{first_below, unless}
use Rattle.prelude.proofs.Search.{or_else_none, true_of_unless, when-none, all_pass, none_of_all-pass}
use Rattle.listing.specs.Listing.{listing_over}
use Rattle.readback.specs.Form.{longest_read, Fitting, Formed}
use Rattle.readback.specs.Rows.{line_number_lem, place_of, row_fits_lem, row_misfit, rows_misfit, header_fits, text_of}
use Rattle.readback.specs.Rows.{misfit}
use Rattle.readback.proofs.Passes.{rows_decide}
use Rattle.readback.proofs.Begun.{FitsTo, StandsTo, stands-to, begins, texts-plain}

module _ (head : List ℕ) (k n : ℕ) (bytes : List ℕ) where
  abbrev first : ℕ
  first = length head

  abbrev place : ℕ → ℕ
  place = place_of bytes first

  abbrev fits : ℕ → Bool
  fits = row_fits_lem bytes first k n

  abbrev misfits : ℕ → Option ℕ
  misfits = row_misfit bytes first k n

  -- the tests in order, where none answers
  record Right : Type 0 where
    short : length bytes ≤ longest_read
    fit : FitsTo head k n bytes (2 ^ k)
    ended : length bytes ≤ place (2 ^ k)

  right_of_none : misfit head k n bytes ≡ none → Right
  unfolding misfit rows_misfit
  right_of_none e =
      let a = or_else_none (unless (leb (length bytes) longest_read) 1) _ e in
      let b = or_else_none (unless (header_fits head bytes) 1) _ a.1 in
      let d = or_else_none (first_below (2 ^ k) misfits) _ b.1 in
      record {
        short = leb-true (length bytes) longest_read (true_of_unless (leb (length bytes) longest_read) 1 a.0);
        fit = record {
          header = true_of_unless (header_fits head bytes) 1 b.0;
          rows = all_pass fits line_number_lem (2 ^ k) d.0;
        };
        ended = ltb-false (place (2 ^ k)) (length bytes)
            (when-none (ltb (place (2 ^ k)) (length bytes)) (line_number_lem (2 ^ k)) d.1);
      }

  none_of_right : Right → misfit head k n bytes ≡ none
  unfolding rows_misfit
  none_of_right r =
      rows_decide head k n bytes r.short r.fit.header
      ∙ rw (none_of_all-pass fits line_number_lem (2 ^ k) r.fit.rows, le-ltb (place (2 ^ k)) (length bytes) r.ended)

  -- rows that all fit, and nothing behind them: a listing over its own texts
  listed : FitsTo head k n bytes (2 ^ k) → length bytes ≤ place (2 ^ k)
      → bytes ≡ listing_over k n (text_of head bytes) head
  listed fit ended =
      begins head k n bytes (2 ^ k) fit
      ∙ ap (λ (x : List ℕ). listing_over k n (text_of head bytes) head ++ x) (drop_of_length-le bytes ended)
      ∙ append-nil (listing_over k n (text_of head bytes) head)

  pub fitting : FitsTo head k n bytes (2 ^ k) → length bytes ≤ place (2 ^ k) → Fitting head k n bytes
  fitting fit ended = record {
    texts = text_of head bytes;
    are_texts = texts-plain head k n bytes (2 ^ k);
    is = listed fit ended;
  }

  -- and the other way round; these are the only texts
  pub stands-all : (x : Fitting head k n bytes) → StandsTo head k n bytes (2 ^ k) x.texts []
  stands-all x =
      stands-to head k n bytes (2 ^ k) x.texts [] x.are_texts
      (x.is ∙ sym (append-nil (listing_over k n x.texts head)))

  pub ended_of : Fitting head k n bytes → length bytes ≤ place (2 ^ k)
  ended_of x = omega (arith, ap length (stands-all x).behind, length-drop (place (2 ^ k)) bytes)

  pub formed_iff : (misfit head k n bytes ≡ none) ↔ Formed head k n bytes
  formed_iff = (
    λ e. let r = right_of_none e in record { short = r.short; fitting = fitting r.fit r.ended },
    λ x. none_of_right (record {
      short = x.short;
      fit = (stands-all x.fitting).fit;
      ended = ended_of x.fitting;
    }),
  )

  -- the texts of a listing that is formed are those that are read
  pub texts-read : (x : Formed head k n bytes) (s u : ℕ) → s < 2 ^ k → u < n
      → text_of head bytes s u ≡ x.fitting.texts s u
  texts-read x s u h g = (stands-all x.fitting).same_texts s u h g
