-- A scenario's line, by its row of the table.
use Rattle.std.specs.Prelude.{cond, List, [], ◌∷◌, ◌++◌, map, ℕ, ◌%◌, eqb, length, get_or}
use Prim.Native.Char.{code}
use Rattle.text.specs.Lines.{comma, line_feed, line}
use Rattle.page.specs.Joined.{join_from}
use Rattle.network.specs.Build.{scenarios}
use Rattle.network.specs.declared.Network.{Network}
use Rattle.listing.specs.Listing.{scenario_text, time_text, line_over, time_texts}

-- what stands behind the first field of a line: n fields, each behind a comma, and the line feed
abbrev pub fields_of : ℕ → (ℕ → List ℕ) → List ℕ
fields_of n f = join_from 0 n (λ i. comma ∷ f i) ++ line_feed ∷ []

-- the mark of a truth, by a number that has it as its last binary digit
abbrev pub mark_of_lem : ℕ → ℕ
mark_of_lem v = cond (eqb (v % 2) 1) (code "T") (code "F")

-- the times of a row, and the line feed
abbrev pub times_of : List ℕ → List ℕ
times_of row = fields_of (length row) (λ u. time_text (get_or row u 0))

-- the line of scenario s, of k signals, where it has this row
abbrev pub line_of : ℕ → ℕ → List ℕ → List ℕ
line_of k s row = line (scenario_text k s) (map time_text row)

-- the lines of all scenarios
abbrev pub lines_of : Network → List ℕ → List ℕ
lines_of Γ σ = join_from 0 (scenarios Γ) (line_over Γ.signals Γ.events (time_texts Γ.events σ))
