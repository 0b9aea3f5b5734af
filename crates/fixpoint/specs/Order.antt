-- The pointwise order on lists of numbers.
use Rattle.std.specs.Prelude.{List, ℕ, ◌≤◌, get_or}

-- no entry of t is greater than u's at its place; behind its end a list counts as 0
pub record Below (t u : List ℕ) : Type 0 where
  pub at : (i : ℕ) → get_or t i 0 ≤ get_or u i 0
