-- Sums over the numbers below n: of two parts, scaled, and over a table's cells but those of its first column. Assumes
-- nothing.
use mathlib.Core.Path.{◌≡◌, refl, ◌∙◌}
use mathlib.Core.Bool.{Bool, true, false, cond}
use Prim.Native.Nat.{ℕ, zero, suc, ◌+◌, ◌-◌, ◌*◌, ◌%◌}
use native.Mathlib.Nat.{mul_comm}
use native.Mathlib.Omega.{arith}
use borrow.Author.Tests.{ne_eqb}
use lib.Dec.{eqb}
use Rattle.prelude.specs.Bounded.{sum_below}
use Rattle.prelude.proofs.Bounded.{sum_below-same}
use Rattle.prelude.proofs.Cells.{column_of}

pub sum_below_add : (f : ℕ → ℕ) (a b : ℕ) → sum_below (a + b) f ≡ sum_below a f + sum_below b (λ j. f (a + j))
sum_below_add f a zero = let z : a + 0 ≡ a = omega arith in rw z (omega arith)
sum_below_add f a (suc b) =
    let z : a + suc b ≡ suc (a + b) = omega arith in
    rw z (omega (arith, sum_below_add f a b))

-- h at each place where the test fails
pub sum_below_scaled : (h : ℕ) (t : ℕ → Bool) (n : ℕ)
    → sum_below n (λ i. cond (t i) 0 h) ≡ sum_below n (λ i. cond (t i) 0 1) * h
sum_below_scaled h t zero = omega arith
sum_below_scaled h t (suc n) =
    omega (arith, sum_below_scaled h t n, one (t n) (sum_below n (λ i. cond (t i) 0 1)))
  where
    one : (b : Bool) (x : ℕ) → (x + cond b 0 1) * h ≡ x * h + cond b 0 h
    one true x = omega arith
    one false x = omega arith

-- a row of n cells has n - 1 that are not its first
row_but_first : (n a : ℕ) → sum_below n (λ u. cond (eqb ((a * n + u) % n) 0) 0 1) ≡ n - 1
row_but_first n a =
    sum_below-same (λ u. cond (eqb ((a * n + u) % n) 0) 0 1) (λ u. cond (eqb u 0) 0 1) n
    (λ u l. rw (column_of n a u l))
    ∙ first n
  where
    first : (n : ℕ) → sum_below n (λ u. cond (eqb u 0) 0 1) ≡ n - 1
    first zero = omega arith
    first (suc zero) = refl
    first (suc (suc n)) =
        let one : ◌≡◌ {A = ℕ} (cond (eqb (suc n) 0) 0 1) 1 = rw (ne_eqb (suc n) 0 (λ e. omega arith)) in
        omega (arith, first (suc n), one)

pub rows_but_first : (n c : ℕ) → sum_below (n * c) (λ i. cond (eqb (i % n) 0) 0 1) ≡ (n - 1) * c
rows_but_first n zero = let z : n * 0 ≡ 0 = omega arith in rw z (omega arith)
rows_but_first n (suc c) =
    let f : ℕ → ℕ = λ i. cond (eqb (i % n) 0) 0 1 in
    let size : n * suc c ≡ c * n + n = omega (arith, mul_comm n c) in
    let rest : sum_below (c * n) f ≡ (n - 1) * c = rw (mul_comm c n) (rows_but_first n c) in
    rw (size, sum_below_add f (c * n) n) (omega (arith, rest, row_but_first n c))
