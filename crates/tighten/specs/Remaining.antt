-- Which upper bounds remain (02, point 2): "Of rows with equal ends and label the least limit stays. Rows are ordered
-- by `from`, then `to`, in event order, then by the sum of the true letters' weights, then of the false ones'." In the
-- field's words, of parallel labelled edges the tightest.
use Rattle.std.specs.Prelude.{◌≡◌, ◌⊎◌, List, [], ◌∷◌, ℕ, ◌<◌, ◌≤ℤ◌, length, get_or}
use Rattle.prelude.specs.Lists.{In, Each}
use Rattle.network.specs.Build.{no_constraint}
use Rattle.network.specs.declared.Constraint.{Constraint}

-- what an upper bound is ordered by: its ends and its label, as the two sums of weights
abbrev pub key_of : Constraint → List ℕ
key_of r = r.from ∷ r.to ∷ r.label.positive ∷ r.label.negative ∷ []

-- the first number that differs decides
abbrev pub Before : List ℕ → List ℕ → Type 0
Before [] ys = ⊥
Before (a ∷ xs) [] = ⊥
Before (a ∷ xs) (b ∷ ys) = (a < b) ⊎ ((a ≡ b) × Before xs ys)

-- one of them has the ends and the label of x, and no greater limit
pub record Stays (rs : List Constraint) (x : Constraint) : Type 0 where
  pub upper : Constraint
  pub stands : In upper rs no_constraint
  pub key : key_of upper ≡ key_of x
  pub limit : upper.bound ≤ℤ x.bound

-- rs are those that remain of xs; by their order no two have equal ends and label
pub record Remaining (xs rs : List Constraint) : Type 0 where
  pub ordered : (i j : ℕ) → i < j → j < length rs
      → Before (key_of (get_or rs i no_constraint)) (key_of (get_or rs j no_constraint))
  pub each : Each (λ r. In r xs no_constraint) rs no_constraint
  pub least : Each (Stays rs) xs no_constraint
