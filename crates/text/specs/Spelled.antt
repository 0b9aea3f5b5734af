-- Digits that are a number as it is written.
use Rattle.std.specs.Prelude.{◌≡◌, List, ℕ, ◌≤◌, length}
use Rattle.text.specs.Decimal.{decimal}

pub record DigitsAre (v : ℕ) (digits : List ℕ) : Type 0 where
  pub few : length digits ≤ 5
  pub text : digits ≡ decimal v
