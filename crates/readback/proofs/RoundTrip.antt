-- Both round trips: a table that is printed is recovered (`recovers`), and a listing that is read without a fault is
-- printed as it was (`prints_back`). Assumes nothing.
use mathlib.Core.Path.{◌≡◌, refl, sym, ◌∙◌, ap}
use mathlib.Core.Logic.{inl, inr}
use mathlib.Core.Option.{none}
use mathlib.Core.List.{List}
use Prim.Native.Nat.{ℕ, ◌+◌, ◌*◌, ◌^◌, ◌≤◌, ◌<◌}
use native.Mathlib.Omega.{arith}
use lib.ListN.{length, get_or, get_or-eq_default}
use lib.Seq.{ext_get_or}
use Rattle.prelude.proofs.Tests.{lt_or_ge}
use Rattle.prelude.proofs.Bounded.{length-tabulate, get_d_tabulate}
use Rattle.prelude.proofs.Cells.{cell_lt, row_of_lem, column_of, by-cell}
use Rattle.network.specs.Limits as L
use Rattle.network.specs.Strategy.{time}
use Rattle.listing.specs.Listing.{time_text, listing_over, time_texts}
use Rattle.listing.proofs.Times.{plain-time_text}
use Rattle.listing.proofs.Same.{texts-same}
use Rattle.readback.specs.Minute.{minute_of}
use Rattle.readback.specs.Form.{longest_read, Formed}
use Rattle.readback.specs.Rows.{cell_of, rows_table, text_of, misfit, unread, recovered}
use Rattle.readback.proofs.Minutes.{is_minute-time_text, minute_of-time_text, time_text-minute_of, minute_of_le}
use Rattle.readback.proofs.Formed.{formed_iff, texts-read}
use Rattle.readback.proofs.Unreads.{minutes-read, minutes_iff}

module _ (head : List ℕ) (k n : ℕ) (bytes : List ℕ) where
  abbrev found : List ℕ
  found = recovered head k n bytes

  pub length-recovered : length found ≡ n * 2 ^ k
  unfolding rows_table
  length-recovered = length-tabulate (cell_of bytes (length head) n) (n * 2 ^ k)

  cell-is : (s u : ℕ) → s < 2 ^ k → u < n → time n found s u ≡ minute_of (text_of head bytes s u)
  unfolding rows_table
  cell-is s u h g =
      get_d_tabulate (cell_of bytes (length head) n) (n * 2 ^ k) (s * n + u) 0 (cell_lt n (2 ^ k) s u h g)
      ∙ rw (row_of_lem n s u g, column_of n s u g)

  module _ (q : unread head k n bytes ≡ none) where
    pub recovered-short : (i : ℕ) → get_or found i 0 ≤ L.blank
    recovered-short i =
        elim (lt_or_ge i (n * 2 ^ k)) [
          | inl h ↦
              by-cell n (2 ^ k) (λ j. get_or found j 0 ≤ L.blank)
              (λ s u l g. rw (cell-is s u l g) (minute_of_le _ (minutes-read head k n bytes q s l u g))) i h
          | inr h ↦ omega (arith, get_or-eq_default found 0 {n = i} (omega (arith, length-recovered)))
        ]

    pub prints_back : misfit head k n bytes ≡ none → listing_over k n (time_texts n found) head ≡ bytes
    prints_back e =
        let x = (formed_iff head k n bytes).0 e in
        texts-same k n (time_texts n found) x.fitting.texts head
        (λ s u h g.
        ap time_text (cell-is s u h g)
        ∙ time_text-minute_of (text_of head bytes s u) (minutes-read head k n bytes q s h u g)
        ∙ texts-read head k n bytes x s u h g)
        ∙ sym x.fitting.is

-- a table of times that can be printed, and whose listing is not too long
module _ (head : List ℕ) (k n : ℕ) (σ : List ℕ) (short : (i : ℕ) → get_or σ i 0 ≤ L.blank)
    (fits : length (listing_over k n (time_texts n σ) head) ≤ longest_read) where
  abbrev printed : List ℕ
  printed = listing_over k n (time_texts n σ) head

  abbrev printed_formed : Formed head k n printed
  printed_formed = record {
    short = fits;
    fitting = record {
      texts = time_texts n σ;
      are_texts = record { each = λ s u h g. plain-time_text (time n σ s u) };
      is = refl;
    };
  }

  pub printed_fits : misfit head k n printed ≡ none
  printed_fits = (formed_iff head k n printed).1 printed_formed

  pub printed_minutes : unread head k n printed ≡ none
  printed_minutes =
      (minutes_iff head k n printed printed_formed).1
      (λ s h u g. is_minute-time_text (time n σ s u) (short (s * n + u)))

  pub recovers : length σ ≡ n * 2 ^ k → recovered head k n printed ≡ σ
  recovers sized =
      ext_get_or 0 (recovered head k n printed) σ (length-recovered head k n printed ∙ sym sized)
      (λ i l. by-cell n (2 ^ k) (λ j. get_or (recovered head k n printed) j 0 ≡ get_or σ j 0)
      (λ s u h g.
      cell-is head k n printed s u h g
      ∙ ap minute_of (texts-read head k n printed printed_formed s u h g)
      ∙ minute_of-time_text (time n σ s u) (short (s * n + u)))
      i (omega (arith, length-recovered head k n printed)))
