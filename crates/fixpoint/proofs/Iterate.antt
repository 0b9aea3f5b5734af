-- Iterates of a step, and of one under which no difference grows. Assumes nothing.
use mathlib.Core.Path.{◌≡◌, refl, ◌∙◌, ap}
use mathlib.Core.List.{List}
use Prim.Native.Nat.{ℕ, zero, suc, ◌+◌, ◌*◌}
use native.Mathlib.Nat.{add-zero, add-suc, zero-mul, suc-mul}
use native.Mathlib.Omega.{arith}
use lib.ListN.{length}
use Rattle.fixpoint.specs.Order.{Below}
use Rattle.fixpoint.specs.Near.{Over, Nonexpansive}
use Rattle.fixpoint.specs.Iterate.{iterate}

module _ (step : List ℕ → List ℕ) where
  pub iterate-add : (a b : ℕ) (t : List ℕ) → iterate (a + b) step t ≡ iterate b step (iterate a step t)
  iterate-add a zero t = rw add-zero
  iterate-add a (suc b) t = rw add-suc (ap step (iterate-add a b t))

  -- the first step first
  pub iterate-first : (k : ℕ) (t : List ℕ) → iterate (suc k) step t ≡ iterate k step (step t)
  iterate-first zero t = refl
  iterate-first (suc k) t = ap step (iterate-first k t)

  -- j times p steps
  pub iterate-mul : (j p : ℕ) (t : List ℕ) → iterate (j * p) step t ≡ iterate j (iterate p step) t
  iterate-mul zero p t = rw zero-mul
  iterate-mul (suc j) p t = rw suc-mul (iterate-add (j * p) p t ∙ ap (iterate p step) (iterate-mul j p t))

  pub iterate-sized : (n : ℕ) → ((t : List ℕ) → length t ≡ n → length (step t) ≡ n) → (k : ℕ) (t : List ℕ)
      → length t ≡ n
      → length (iterate k step t) ≡ n
  iterate-sized n f zero t l = l
  iterate-sized n f (suc k) t l = f (iterate k step t) (iterate-sized n f k t l)

module _ (n : ℕ) (step : List ℕ → List ℕ) (N : Nonexpansive n step) where
  iterate-near : (k c : ℕ) (t u : List ℕ) → length t ≡ n → length u ≡ n → Over c t u
      → Over c (iterate k step t) (iterate k step u)
  iterate-near zero c t u l m o = o
  iterate-near (suc k) c t u l m o =
      N.near c (iterate k step t) (iterate k step u) (iterate-sized step n N.sized k t l)
      (iterate-sized step n N.sized k u m)
      (iterate-near k c t u l m o)

  -- no difference grows under its iterates either
  pub iterate_nonexpansive : (k : ℕ) → Nonexpansive n (iterate k step)
  iterate_nonexpansive k = record { sized = iterate-sized step n N.sized k; near = iterate-near k }

  -- it keeps the order
  pub near-monotone : (t u : List ℕ) → length t ≡ n → length u ≡ n → Below t u → Below (step t) (step u)
  near-monotone t u l m b =
      let o = N.near 0 u t m l (record { at = λ i. omega (arith, b.at i) }) in
      record { at = λ i. omega (arith, o.at i) }
