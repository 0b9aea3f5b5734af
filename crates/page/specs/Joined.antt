-- Texts one behind the other.
use Rattle.std.specs.Prelude.{List, [], ◌++◌, ℕ, zero, suc}

-- f i, f (i + 1), .. one behind the other: n of them
abbrev pub join_from : ℕ → ℕ → (ℕ → List ℕ) → List ℕ
join_from i zero f = []
join_from i (suc n) f = f i ++ join_from (suc i) n f
