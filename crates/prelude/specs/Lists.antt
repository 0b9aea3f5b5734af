-- What stands in a list, whether it stands there once, and what holds of each. A list is read beyond its end as d.
use Rattle.std.specs.Prelude.{◌≡◌, List, ℕ, ◌<◌, length, get_or}

-- x stands in the list
pub record In {A : Type 0} (x : A) (xs : List A) (d : A) : Type 0 where
  pub place : ℕ
  pub place_lt : place < length xs
  pub is : get_or xs place d ≡ x

-- nothing stands in it twice
pub record Distinct {A : Type 0} (xs : List A) (d : A) : Type 0 where
  pub once : (i j : ℕ) → i < length xs → j < length xs → get_or xs i d ≡ get_or xs j d → i ≡ j

-- P holds of each of them
pub record Each {A : Type 0} (P : A → Type 0) (xs : List A) (d : A) : Type 0 where
  pub each : (i : ℕ) → i < length xs → P (get_or xs i d)
