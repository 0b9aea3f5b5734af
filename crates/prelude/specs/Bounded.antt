-- What is taken over all the numbers below n: conjunctions, maxima, guarded minima, sums and lists.
use Rattle.std.specs.Prelude.{Bool, true, ◌&&◌, cond, List, [], ◌∷◌, ℕ, zero, suc, ◌+◌, max, min}

-- whether f holds at each number below n
abbrev pub all_below : ℕ → (ℕ → Bool) → Bool
all_below zero f = true
all_below (suc n) f = all_below n f && f n

-- the greatest of f 0, .., f (n - 1), or 0 where n is 0
abbrev pub max_below : ℕ → (ℕ → ℕ) → ℕ
max_below zero f = 0
max_below (suc n) f = max (max_below n f) (f n)

-- the least of top and of f at those of the numbers below n at which the test holds
abbrev pub min_where : ℕ → (ℕ → Bool) → (ℕ → ℕ) → ℕ → ℕ
min_where zero test f top = top
min_where (suc n) test f top = cond (test n) (min (min_where n test f top) (f n)) (min_where n test f top)

-- f 0 + .. + f (n - 1)
abbrev pub sum_below : ℕ → (ℕ → ℕ) → ℕ
sum_below zero f = 0
sum_below (suc n) f = sum_below n f + f n

module _ {A : Type 0} where
  -- f i, f (i + 1), .. : n values
  abbrev pub tabulate_from : ℕ → ℕ → (ℕ → A) → List A
  tabulate_from i zero f = []
  tabulate_from i (suc n) f = f i ∷ tabulate_from (suc i) n f

  -- f 0, f 1, .. : n values
  abbrev pub tabulate : ℕ → (ℕ → A) → List A
  tabulate n f = tabulate_from 0 n f
