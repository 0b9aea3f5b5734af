-- Laws of tables at stride sixteen and of the strategies that they hold. Assumes nothing.
use mathlib.Core.Path.{◌≡◌, sym, ◌∙◌}
use mathlib.Core.List.{List}
use Prim.Native.Nat.{ℕ, zero, suc, ◌+◌, ◌*◌, ◌/◌, ◌%◌, ◌^◌, ◌≤◌, ◌<◌}
use native.Mathlib.Omega.{arith}
use lib.ListN.{length, get_or, drop, length-drop}
use lib.Seq.{ext_get_or, get_or-take, get_or-drop, length-take-le}
use Rattle.prelude.proofs.Bounded.{length-tabulate, get_d_tabulate}
use Rattle.prelude.proofs.Cells.{cell_lt, row_of_lem, column_of}
use Rattle.rows.specs.Rows.{gapless, row_of, Sixteen}

-- four propositions have sixteen scenarios
pub sixteen : (k : ℕ) → k ≤ 4 → 2 ^ k ≤ 16
sixteen zero l = omega arith
sixteen (suc zero) l = omega arith
sixteen (suc (suc zero)) l = omega arith
sixteen (suc (suc (suc zero))) l = omega arith
sixteen (suc (suc (suc (suc zero)))) l = omega arith
sixteen (suc (suc (suc (suc (suc k))))) l = absurd (omega arith)

module _ (n c : ℕ) (t : List ℕ) where
  pub length-gapless : length (gapless n c t) ≡ n * c
  unfolding gapless
  length-gapless = length-tabulate (λ i. get_or t (i / n * 16 + i % n) 0) (n * c)

  pub gapless-at : (s u : ℕ) → s < c → u < n → get_or (gapless n c t) (s * n + u) 0 ≡ get_or t (s * 16 + u) 0
  unfolding gapless
  gapless-at s u h l =
      get_d_tabulate (λ i. get_or t (i / n * 16 + i % n) 0) (n * c) (s * n + u) 0 (cell_lt n c s u h l)
      ∙ rw (row_of_lem n s u l, column_of n s u l)

module _ (t : List ℕ) (s : ℕ) where
  pub row_at : (u : ℕ) → u < 16 → get_or (row_of t s) u 0 ≡ get_or t (s * 16 + u) 0
  row_at u l = get_or-take 16 (drop (s * 16) t) u 0 l ∙ get_or-drop (s * 16) t u 0

  -- a row that was read is the table's
  pub row_is : (row : List ℕ) → length t ≡ 256 → s < 16 → Sixteen row (λ u. get_or t (s * 16 + u) 0) → row ≡ row_of t s
  row_is row n l h =
      let size : length (row_of t s) ≡ 16 = length-take-le 16 (drop (s * 16) t) (simp length-drop (omega arith)) in
      ext_get_or 0 row (row_of t s) (h.sized ∙ sym size) (λ i b.
      let c : i < 16 = omega (arith, h.sized) in h.is i c ∙ sym (row_at i c))
