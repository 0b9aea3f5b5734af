-- 18 comes with the first line that is not this sheet's: `misfit_iff`. The tests lead to that line (`first-misfit`),
-- and there is only one (`once`). Assumes nothing.
use mathlib.Core.Path.{◌≡◌, sym, ◌∙◌, ap}
use mathlib.Core.Logic.{inl, inr, ◌↔◌}
use mathlib.Core.Bool.{Bool, true, false}
use mathlib.Core.Option.{Option, some}
use mathlib.Core.List.{List}
use Prim.Native.Nat.{ℕ, zero, suc, ◌^◌, ◌≤◌, ◌<◌}
use native.Mathlib.Omega.{arith}
use borrow.Author.Tests.{leb-true, leb-false, ltb-true}
use lib.Dec.{leb, ltb}
use lib.ListN.{length}
use Rattle.prelude.specs.Search.{or_else, first_below, unless}
use Rattle.prelude.proofs.Tests.{clash, lt_or_ge}
use Rattle.prelude.proofs.Search.{some_or_none, FoundAt, some_of_first_below}
use Rattle.prelude.proofs.Search.{or_else_some, true_of_unless, unless-some, when-some, all_pass}
use Rattle.readback.specs.Form.{longest_read, Fitting, Stand, Next, FirstMisfit, Misfit}
use Rattle.readback.specs.Rows.{line_number_lem, place_of, row_fits_lem, row_misfit, rows_misfit, header_fits, misfit}
use Rattle.readback.proofs.Optional.{unless_or_else}
use Rattle.readback.proofs.Passes.{length_decides}
use Rattle.readback.proofs.Begun.{FitsTo, begins_at, fits-to}
use Rattle.readback.proofs.Formed.{stands-all, ended_of, formed_iff}

module _ (head : List ℕ) (k n : ℕ) (bytes : List ℕ) where
  abbrev first : ℕ
  first = length head

  abbrev place : ℕ → ℕ
  place = place_of bytes first

  abbrev fits : ℕ → Bool
  fits = row_fits_lem bytes first k n

  abbrev misfits : ℕ → Option ℕ
  misfits = row_misfit bytes first k n

  -- each test in order, where it answers
  module _ (l : ℕ) where
    no_header : header_fits head bytes ≡ false → 1 ≡ l → FirstMisfit head k n bytes l
    no_header e q = record {
      above = 0;
      is_line = sym q;
      within = omega arith;
      pass = tt;
      fault = λ x. elim x [
        | inl b ↦ clash (header_fits head bytes) (fits-to head k n bytes 0 b.1).header e
        | inr b ↦ absurd (omega (arith, b.0))
      ];
    }

    no_row : header_fits head bytes ≡ true → FoundAt misfits (2 ^ k) l → FirstMisfit head k n bytes l
    no_row g w =
        let s = w.index in
        let p = unless-some (fits s) (line_number_lem s) l w.answer in
        record {
          above = suc s;
          is_line = omega (arith, p.1);
          within = omega (arith, w.index_lt);
          pass = begins_at head k n bytes s (record {
            header = g;
            rows = λ j h. true_of_unless (fits j) (line_number_lem j) (w.first j h);
          });
          fault = λ x. elim x [
            | inl b ↦ clash (fits s) ((fits-to head k n bytes (suc s) b.1).rows s (omega arith)) p.0
            | inr b ↦ absurd (omega (arith, b.0, w.index_lt))
          ];
        }

    left_over : FitsTo head k n bytes (2 ^ k) → place (2 ^ k) < length bytes → line_number_lem (2 ^ k) ≡ l
        → FirstMisfit head k n bytes l
    left_over fit h q = record {
      above = suc (2 ^ k);
      is_line = omega (arith, q);
      within = omega arith;
      pass = begins_at head k n bytes (2 ^ k) fit;
      fault = λ x. elim x [
        | inl b ↦ absurd (omega (arith, b.0))
        | inr b ↦ omega (arith, h, ended_of head k n bytes b.1)
      ];
    }

    of_rows : header_fits head bytes ≡ true → rows_misfit bytes first k n ≡ some l → FirstMisfit head k n bytes l
    unfolding rows_misfit
    of_rows g e =
        elim (or_else_some (first_below (2 ^ k) misfits) _ l e) [
          | inl a ↦ no_row g (some_of_first_below misfits (2 ^ k) l a)
          | inr a ↦
              let p = when-some (ltb (place (2 ^ k)) (length bytes)) (line_number_lem (2 ^ k)) l a.1 in
              left_over (record { header = g; rows = all_pass fits line_number_lem (2 ^ k) a.0 })
              (ltb-true (place (2 ^ k)) (length bytes) p.0) p.1
        ]

    of_header : or_else (unless (header_fits head bytes) 1) (rows_misfit bytes first k n) ≡ some l
        → FirstMisfit head k n bytes l
    of_header e =
        elim (unless_or_else (header_fits head bytes) 1 _ l e)
        [ inl p ↦ no_header p.0 p.1 | inr p ↦ of_rows p.0 p.1 ]

    first-misfit : misfit head k n bytes ≡ some l → Misfit head k n bytes l
    unfolding misfit
    first-misfit e =
        elim (unless_or_else (leb (length bytes) longest_read) 1 _ l e) [
          | inl p ↦ inl (leb-false (length bytes) longest_read p.0, sym p.1)
          | inr p ↦ inr (leb-true (length bytes) longest_read p.0, of_header p.1)
        ]

  -- where the header and m rows fit, what is due behind fewer lines is there
  due : (j m : ℕ) → j ≤ m → j ≤ 2 ^ k → FitsTo head k n bytes m → Next head k n bytes j
  due j m h g fit =
      let fewer : FitsTo head k n bytes j = record { header = fit.header; rows = λ s l. fit.rows s (omega arith) } in
      inl (g, begins_at head k n bytes j fewer)

  -- so the line of a first misfit is none of those above another, and there is no first misfit in a listing
  not-above : {i j : ℕ} (x : FirstMisfit head k n bytes i) (y : FirstMisfit head k n bytes j) → x.above < y.above → ⊥
  not-above x y h = below y.above h y.within y.pass
    where
      below : (m : ℕ) → x.above < m → m ≤ suc (2 ^ k) → Stand head k n bytes m → ⊥
      below zero h w p = absurd (omega arith)
      below (suc m) h w p = x.fault (due x.above m (omega arith) (omega arith) (fits-to head k n bytes m p))

  not-fitting : {i : ℕ} → FirstMisfit head k n bytes i → Fitting head k n bytes → ⊥
  not-fitting x w =
      x.fault (elim (lt_or_ge (2 ^ k) x.above) [
        | inl h ↦ inr (omega (arith, x.within), w)
        | inr h ↦ due x.above (2 ^ k) h h (stands-all head k n bytes w).fit
      ])

  once : {i j : ℕ} → FirstMisfit head k n bytes i → FirstMisfit head k n bytes j → i ≡ j
  once x y =
      elim (lt_or_ge x.above y.above) [
        | inl h ↦ absurd (not-above x y h)
        | inr h ↦ elim (lt_or_ge y.above x.above) [
          | inl g ↦ absurd (not-above y x g)
          | inr g ↦ omega (arith, x.is_line, y.is_line)
        ]
      ]

  -- and there is no other answer
  misfit-first : (l : ℕ) → Misfit head k n bytes l → misfit head k n bytes ≡ some l
  misfit-first l (inl p) = rw p.1 (length_decides head k n bytes p.0)
  misfit-first l (inr p) =
      elim (some_or_none (misfit head k n bytes)) [
        | inl q ↦ elim (first-misfit q.0 q.1) [
          | inl r ↦ absurd (omega (arith, p.0, r.0))
          | inr r ↦ q.1 ∙ ap some (once r.1 p.1)
        ]
        | inr q ↦ absurd (not-fitting p.1 ((formed_iff head k n bytes).0 q).fitting)
      ]

  pub misfit_iff : (l : ℕ) → (misfit head k n bytes ≡ some l) ↔ Misfit head k n bytes l
  misfit_iff l = (first-misfit l, misfit-first l)
