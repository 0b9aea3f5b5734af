-- The header and the first rows of any bytes: those that stand there over texts fit and have these texts
-- (`stands-to`), and those that fit stand there over their own texts (`begins`). Assumes nothing.
use mathlib.Core.Path.{◌≡◌, sym, ◌∙◌, ap}
use mathlib.Core.Logic.{inl, inr}
use mathlib.Core.Bool.{Bool, true}
use mathlib.Core.List.{List, ◌++◌, append_assoc, append-nil}
use Prim.Native.Nat.{ℕ, zero, suc, ◌<◌}
use native.Mathlib.Numerals.{add-one}
use native.Mathlib.Omega.{arith}
use lib.ListN.{length, take, drop, take-append-drop}
use lib.Seq.{take-append_seam, drop-append_seam}
use Rattle.prelude.proofs.Tests.{eq_or_ne}
use Rattle.prelude.proofs.Bytes.{same_true, same_of_eq}
use Rattle.page.specs.Joined.{join_from}
use Rattle.page.proofs.Join.{join_more}
use Rattle.listing.specs.Listing.{line_over, lines_over}
use Rattle.readback.specs.Form.{Texts, Begins}
use Rattle.readback.specs.Rows.{place_of, row_fits_lem, header_fits, text_of}
use Rattle.readback.proofs.Standing.{plain-text, row-stands, row_read}

-- one line more
more-lines : (k n : ℕ) (ts : ℕ → ℕ → List ℕ) (head : List ℕ) (m : ℕ)
    → lines_over k n ts head m ++ line_over k n ts m ≡ lines_over k n ts head (suc m)
more-lines k n ts head m =
    let f = line_over k n ts in
    append_assoc head (join_from 0 m f) (f m)
    ∙ ap (λ (t : List ℕ). head ++ t) (sym (rw (add-one m) at (join_more f m)))

module _ (head : List ℕ) (k n : ℕ) (bytes : List ℕ) where
  abbrev place : ℕ → ℕ
  place = place_of bytes (length head)

  abbrev fits : ℕ → Bool
  fits = row_fits_lem bytes (length head) k n

  abbrev texts : ℕ → ℕ → List ℕ
  texts = text_of head bytes

  header-fits : (rest : List ℕ) → bytes ≡ head ++ rest → header_fits head bytes ≡ true
  header-fits rest e =
      same_of_eq (take (length head) bytes) head
      (ap (λ (t : List ℕ). take (length head) t) e ∙ take-append_seam head rest)

  header-stands : header_fits head bytes ≡ true → bytes ≡ head ++ drop (length head) bytes
  header-stands e =
      sym (take-append-drop (length head) bytes)
      ∙ ap (λ (t : List ℕ). t ++ drop (length head) bytes) (same_true (take (length head) bytes) head e)

  -- the header and the first m rows fit
  pub record FitsTo (m : ℕ) : Type 0 where
    pub header : header_fits head bytes ≡ true
    pub rows : (s : ℕ) → s < m → fits s ≡ true

  -- they do, their texts are these, and this is behind them
  pub record StandsTo (m : ℕ) (ts : ℕ → ℕ → List ℕ) (rest : List ℕ) : Type 0 where
    pub fit : FitsTo m
    pub same_texts : (s u : ℕ) → s < m → u < n → texts s u ≡ ts s u
    pub behind : drop (place m) bytes ≡ rest

  pub stands-to : (m : ℕ) (ts : ℕ → ℕ → List ℕ) (rest : List ℕ) → Texts n m ts
      → bytes ≡ lines_over k n ts head m ++ rest → StandsTo m ts rest
  stands-to zero ts rest t e =
      let q : bytes ≡ head ++ rest = e ∙ ap (λ (x : List ℕ). x ++ rest) (append-nil head) in
      record {
        fit = record { header = header-fits rest q; rows = λ s h. absurd (omega arith) };
        same_texts = λ s u h. absurd (omega arith);
        behind = ap (λ (x : List ℕ). drop (length head) x) q ∙ drop-append_seam head rest;
      }
  stands-to (suc m) ts rest t e =
      let line = line_over k n ts m in
      let q : bytes ≡ lines_over k n ts head m ++ (line ++ rest) =
      e ∙ ap (λ (x : List ℕ). x ++ rest) (sym (more-lines k n ts head m))
      ∙ append_assoc (lines_over k n ts head m) line rest in
      let w = stands-to m ts (line ++ rest) (record { each = λ s u h. t.each s u (omega arith) }) q in
      let r = row-stands k n bytes m (place m) ts rest (λ u h. t.each m u (omega arith) h) w.behind in
      record {
        fit = record {
          header = w.fit.header;
          rows = λ s h. elim (eq_or_ne s m) [ inl p ↦ rw p r.fits | inr p ↦ w.fit.rows s (omega arith) ];
        };
        same_texts = λ s u h g.
            elim (eq_or_ne s m) [
              | inl p ↦ rw p (r.same_texts u g)
              | inr p ↦ w.same_texts s u (omega arith) g
            ];
        behind = r.behind;
      }

  pub begins : (m : ℕ) → FitsTo m → bytes ≡ lines_over k n texts head m ++ drop (place m) bytes
  begins zero w =
      header-stands w.header ∙ ap (λ (x : List ℕ). x ++ drop (length head) bytes) (sym (append-nil head))
  begins (suc m) w =
      let rest = drop (place (suc m)) bytes in
      begins m (record { header = w.header; rows = λ s h. w.rows s (omega arith) })
      ∙ ap (λ (x : List ℕ). lines_over k n texts head m ++ x) (row_read k n bytes m (place m) (w.rows m (omega arith)))
      ∙ sym (append_assoc (lines_over k n texts head m) (line_over k n texts m) rest)
      ∙ ap (λ (x : List ℕ). x ++ rest) (more-lines k n texts head m)

  pub texts-plain : (m : ℕ) → Texts n m texts
  texts-plain m = record { each = λ s u h g. plain-text bytes (place s) u }

  pub begins_at : (m : ℕ) → FitsTo m → Begins head k n bytes m
  begins_at m w =
      record { texts = texts; are_texts = texts-plain m; rest = drop (place m) bytes; is = begins m w }

  pub fits-to : (m : ℕ) → Begins head k n bytes m → FitsTo m
  fits-to m b = (stands-to m b.texts b.rest b.are_texts b.is).fit
