-- Levels: the values that rises have.
use Rattle.std.specs.Prelude.{◌≡◌, ◌⊎◌, List, ℕ, ◌≤◌, ◌<◌, get_or}

-- some rise is not 0
pub record SomeRise (d : List ℕ) (cells : ℕ) : Type 0 where
  pub cell : ℕ
  pub inside : cell < cells
  pub up : 0 < get_or d cell 0

-- no level is above l
pub record Highest (d : List ℕ) (l cells : ℕ) : Type 0 where
  pub none : (i : ℕ) → i < cells → get_or d i 0 ≤ l

-- r is the least level above l
pub record NextLevel (d : List ℕ) (l cells r : ℕ) : Type 0 where
  pub more : l < r
  pub between : (i : ℕ) → i < cells → (get_or d i 0 ≤ l) ⊎ (r ≤ get_or d i 0)
  pub found : (i : ℕ) × (i < cells) × (get_or d i 0 ≡ r)
