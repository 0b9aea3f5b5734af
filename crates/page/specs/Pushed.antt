-- What a function does that writes a text behind what is written on a page.
use Rattle.std.specs.Prelude.{◌≡◌, List, ◌++◌, ℕ, ◌+◌, ◌≤◌, length}

-- a text of at most `most` bytes stands behind `before`
pub record Pushed (most : ℕ) (before text after : List ℕ) : Type 0 where
  pub is : after ≡ before ++ text
  pub grown : length after ≡ length before + length text
  pub short : length text ≤ most
