-- What a step makes of a list, done again and again.
use Rattle.std.specs.Prelude.{List, ℕ, zero, suc}

-- a step k times
abbrev pub iterate : ℕ → (List ℕ → List ℕ) → List ℕ → List ℕ
iterate zero step t = t
iterate (suc k) step t = step (iterate k step t)
