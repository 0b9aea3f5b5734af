-- Laws of texts one behind the other. Assumes nothing.
use mathlib.Core.Path.{◌≡◌, refl, ap}
use mathlib.Core.List.{List, [], ◌∷◌, ◌++◌, append_assoc, append-nil}
use Prim.Native.Nat.{ℕ, zero, suc, ◌+◌}
use native.Mathlib.Numerals.{add-one}
use native.Mathlib.Omega.{arith}
use Rattle.prelude.specs.Bounded.{tabulate_from, tabulate}
use Rattle.page.specs.Joined.{join_from}

module _ (f : ℕ → List ℕ) where
  join_from-end : (i n j : ℕ) → j ≡ i + n → join_from i (suc n) f ≡ join_from i n f ++ f j
  join_from-end i zero j e = rw append-nil (ap f (omega arith))
  join_from-end i (suc n) j e = rw (join_from-end (suc i) n j (omega arith), append_assoc)

  -- one more, at the end
  pub join_more : (n : ℕ) → join_from 0 (n + 1) f ≡ join_from 0 n f ++ f n
  join_more n = rw add-one (join_from-end 0 n n (omega arith))

-- a table of bytes is the join of texts of one byte
module _ (f : ℕ → ℕ) where
  tabulate_from-join : (i n : ℕ) → tabulate_from i n f ≡ join_from i n (λ p. f p ∷ [])
  tabulate_from-join i zero = refl
  tabulate_from-join i (suc n) = ap (λ (l : List ℕ). f i ∷ l) (tabulate_from-join (suc i) n)

  pub tabulate-join : (n : ℕ) → tabulate n f ≡ join_from 0 n (λ p. f p ∷ [])
  tabulate-join n = tabulate_from-join 0 n
