-- A table as bytes: "two bytes a minute, low byte first" (01, The judge's verdict).
use Rattle.std.specs.Prelude.{Bool, ◌&&◌, cond, List, [], ◌∷◌, ℕ, ◌+◌, ◌*◌, ◌/◌, ◌%◌, ◌≤◌, eqb, leb, length, get_or}
use Rattle.prelude.specs.Bounded.{tabulate}

-- the minute of pair i
abbrev pub pair_at : List ℕ → ℕ → ℕ
pair_at b i = get_or b (2 * i) 0 + 256 * get_or b (2 * i + 1) 0

-- the minutes of the whole pairs
abbrev pub minutes_of : List ℕ → List ℕ
minutes_of b = tabulate (length b / 2) (pair_at b)

-- they are a table of at most so many minutes
abbrev pub is_table : ℕ → List ℕ → Bool
is_table most b = eqb (length b % 2) 0 && leb (length b / 2) most

-- the minutes of such a table; of other bytes, none
abbrev pub table_of_lem : ℕ → List ℕ → List ℕ
table_of_lem most b = cond (is_table most b) (minutes_of b) []

abbrev pub bytes_of : List ℕ → List ℕ
bytes_of [] = []
bytes_of (m ∷ ms) = m % 256 ∷ m / 256 ∷ bytes_of ms

-- each minute has sixteen bits
abbrev pub Short : List ℕ → Type 0
Short ms = (i : ℕ) → get_or ms i 0 ≤ 65535
