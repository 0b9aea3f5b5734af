-- Both weights at the ends of the limits and around zero, by computation. Assumes nothing.
use mathlib.Core.Path.{◌≡◌, refl}
use mathlib.Core.List.{List, [], ◌∷◌}
use Prim.Native.Nat.{ℕ}
use lib.IntN.{ℤ, pos, negsuc}
use Rattle.bounds.specs.Weight.{weight_of, lower_weight}

-- what a weight is at -10,080, -1, 0, 1 and 10,080
abbrev at_edges : (ℤ → ℕ) → List ℕ
at_edges f = f (negsuc 10079) ∷ f (negsuc 0) ∷ f (pos 0) ∷ f (pos 1) ∷ f (pos 10080) ∷ []

pub upper-at_edges : at_edges weight_of ≡ 20160 ∷ 10081 ∷ 10080 ∷ 10079 ∷ 0 ∷ []
upper-at_edges = refl

pub lower-at_edges : at_edges lower_weight ≡ 0 ∷ 10079 ∷ 10080 ∷ 10081 ∷ 20160 ∷ []
lower-at_edges = refl
