-- Steps under which no difference grows.
use Rattle.std.specs.Prelude.{◌≡◌, List, ℕ, ◌+◌, ◌≤◌, length, get_or}

-- no entry of u is more than c above t's at its place
pub record Over (c : ℕ) (t u : List ℕ) : Type 0 where
  pub at : (i : ℕ) → get_or u i 0 ≤ get_or t i 0 + c

-- what is at most c above a list goes to what is at most c above its image. (With c = 0 the step keeps the order.)
pub record Nonexpansive (n : ℕ) (step : List ℕ → List ℕ) : Type 0 where
  pub sized : (t : List ℕ) → length t ≡ n → length (step t) ≡ n
  pub near : (c : ℕ) (t u : List ℕ) → length t ≡ n → length u ≡ n → Over c t u → Over c (step t) (step u)
