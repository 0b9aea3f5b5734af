-- A table of m rows of n cells, row by row: the cell at row s and column u stands at s * n + u. Assumes nothing.
use mathlib.Core.Path.{◌≡◌, ◌∙◌}
use mathlib.Core.Logic.{inl, inr}
use Prim.Native.Nat.{ℕ, zero, suc, ◌+◌, ◌-◌, ◌*◌, ◌/◌, ◌%◌, ◌<◌}
use native.Mathlib.Nat.{mul-le-mul_right, mul-add-mod_self_right, mod-eq_of_lt, mul-add-div_right, div-eq_of_lt}
use native.Mathlib.Omega.{arith}
use Rattle.prelude.proofs.Tests.{lt_or_ge}

-- a cell by its row and column
pub record CellOf (n m i : ℕ) : Type 0 where
  pub row : ℕ
  pub column : ℕ
  pub row_lt : row < m
  pub column_lt : column < n
  pub place : i ≡ row * n + column

pub cell_of : (n m i : ℕ) → i < n * m → CellOf n m i
cell_of n zero i h = absurd (omega arith)
cell_of n (suc m) i h =
    elim (lt_or_ge i (n * m)) [
      | inl p ↦
          let w = cell_of n m i p in
          record {
            row = w.row;
            column = w.column;
            row_lt = omega (arith, w.row_lt);
            column_lt = w.column_lt;
            place = w.place;
          }
      | inr p ↦ record {
        row = m;
        column = i - n * m;
        row_lt = omega arith;
        column_lt = omega arith;
        place =
            omega arith;
      }
    ]

pub cell_lt : (n m s u : ℕ) → s < m → u < n → s * n + u < n * m
cell_lt n m s u h k = omega (arith, mul-le-mul_right n h)

pub column_of : (n s u : ℕ) → u < n → (s * n + u) % n ≡ u
column_of n s u h = mul-add-mod_self_right s n u ∙ mod-eq_of_lt h

pub row_of_lem : (n s u : ℕ) → u < n → (s * n + u) / n ≡ s
row_of_lem n s u h =
    let some : 0 < n = omega arith in
    mul-add-div_right some s u ∙ omega (arith, div-eq_of_lt h)

-- what holds at each row and column holds of each cell
pub by-cell : (n m : ℕ) (P : ℕ → Type 0) → ((s u : ℕ) → s < m → u < n → P (s * n + u)) → (i : ℕ) → i < n * m → P i
by-cell n m P h i l = let w = cell_of n m i l in rw w.place (h w.row w.column w.row_lt w.column_lt)
