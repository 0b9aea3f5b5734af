-- Steps on lists of n numbers.
use Rattle.std.specs.Prelude.{◌≡◌, List, ℕ, length}
use Rattle.fixpoint.specs.Order.{Below}

-- a step that keeps the length, lowers nothing and keeps the order
pub record Rising (n : ℕ) (step : List ℕ → List ℕ) : Type 0 where
  pub sized : (t : List ℕ) → length t ≡ n → length (step t) ≡ n
  pub inflationary : (t : List ℕ) → length t ≡ n → Below t (step t)
  pub monotone : (t u : List ℕ) → length t ≡ n → length u ≡ n → Below t u → Below (step t) (step u)

-- a list of n numbers, none below the floor's, of which the step asks no raise
pub record Prefixpoint (step : List ℕ → List ℕ) (floor t : List ℕ) : Type 0 where
  pub sized : length t ≡ length floor
  pub above : Below floor t
  pub closed : Below (step t) t
