-- The greatest of a list, or 0, is that of its numbers by their places. Assumes nothing.
use mathlib.Core.Path.{◌≡◌, ◌∙◌, ap}
use mathlib.Core.List.{List, [], ◌∷◌}
use Prim.Native.Nat.{ℕ, zero, suc, max}
use native.Mathlib.Omega.{arith}
use lib.ListN.{length, get_or}
use Rattle.std.specs.List.{fold}
use Rattle.prelude.specs.Bounded.{max_below}

front : (f : ℕ → ℕ) (n : ℕ) → max_below (suc n) f ≡ max (f 0) (max_below n (λ k. f (suc k)))
front f zero = omega arith
front f (suc n) = omega (arith, front f n)

folded : (a : ℕ) (xs : List ℕ) → fold max a xs ≡ max a (max_below (length xs) (λ k. get_or xs k 0))
folded a [] = omega arith
folded a (x ∷ xs) = omega (arith, folded (max a x) xs, front (λ k. get_or (x ∷ xs) k 0) (length xs))

pub greatest_is : (xs : List ℕ) → length xs ≡ 16 → fold max 0 xs ≡ max_below 16 (λ u. get_or xs u 0)
greatest_is xs e =
    folded 0 xs ∙ ap (λ (n : ℕ). max 0 (max_below n (λ u. get_or xs u 0))) e ∙ omega arith
