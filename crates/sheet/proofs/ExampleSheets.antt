-- Sheets as examples: how they are written down, and whether reading one ends as it should.
use mathlib.Core.Bool.{Bool, true, ◌&&◌}
use mathlib.Core.List.{List, [], ◌∷◌, ◌++◌}
use Prim.Native.Nat.{ℕ}
use Prim.Native.String.{String}
use lib.Dec.{eqb}
use Rattle.prelude.specs.Bytes.{ascii}
use Rattle.text.specs.Lines.{line_feed}
use Rattle.std.specs.Prelude.{Ok, Err}
use Rattle.refusal.specs.Refusal.{number_of}
use Rattle.sheet.specs.Reading.{Progress, progress}

-- lines of text, each with its line feed
abbrev pub lines : List String → List ℕ
lines [] = []
lines (l ∷ ls) = ascii l ++ line_feed ∷ lines ls

-- a sheet, and the number and the line of its refusal, or 0 and 0
pub record Example : Type 0 where
  pub sheet : List ℕ
  pub number : ℕ
  pub line : ℕ

abbrev pub refused : ℕ → ℕ → List ℕ → Example
refused n k s = record { sheet = s; number = n; line = k }

abbrev pub accepted : List ℕ → Example
accepted s = record { sheet = s; number = 0; line = 0 }

-- a sheet whose horizon, events, signals and rules are given
abbrev pub sheet_of : List String → List String → List String → List String → List ℕ
sheet_of h e s r = lines (h ++ e ++ s ++ r)

abbrev pub hour : List String
hour = "horizon,60" ∷ []

abbrev pub two : List String
two = "events,2" ∷ "start" ∷ "door" ∷ []

abbrev pub none : List String
none = "signals,0" ∷ []

abbrev pub one : List String
one = "signals,1" ∷ "p,door" ∷ []

-- one rule, which is line 8
abbrev pub rule : String → List ℕ
rule r = sheet_of hour two one ("rules,1" ∷ r ∷ [])

-- whether reading ends so
abbrev pub ends : Progress → ℕ → ℕ → Bool
ends (Err r) n k = eqb (number_of r.cause) n && eqb r.line k
ends (Ok p) n k = eqb 0 n && eqb 0 k

abbrev pub all_end : List Example → Bool
all_end [] = true
all_end (x ∷ xs) = ends (progress x.sheet) x.number x.line && all_end xs
