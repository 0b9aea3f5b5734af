-- The lines of a sheet, and which of them are rows of the kind that is retired (02, point 7).
use Rattle.std.specs.Prelude.{Bool, true, false, ◌&&◌, List, [], ◌∷◌, ◌++◌, ℕ, suc, eqb, length, take, drop}
use Rattle.std.specs.List.{count_by}
use Rattle.text.specs.Lines.{line_feed, up_to, fields, field}
use Rattle.network.specs.declared.Kind.{Kind}
use Rattle.line.specs.Tests.{is_retired}
use Rattle.layout.specs.Layout.{kind_text}

-- b put before the first of the lines
abbrev pub into_line : ℕ → List (List ℕ) → List (List ℕ)
into_line b [] = (b ∷ []) ∷ []
into_line b (l ∷ ls) = (b ∷ l) ∷ ls

-- the lines of a sheet, each with its line feed; the last may have none
abbrev pub lines_of : List ℕ → List (List ℕ)
lines_of [] = []
lines_of (b ∷ s) = elim (eqb b line_feed) [ true ↦ (b ∷ []) ∷ lines_of s | false ↦ into_line b (lines_of s) ]

-- the first of them, with its line feed
abbrev pub first_line : List ℕ → List ℕ
first_line s = take (suc (length (up_to line_feed s))) s

-- fields of a `fix` row: as many as a rule has, and the first is that word. Of an accepted sheet only rules have five
-- fields
abbrev pub are_fix : List (List ℕ) → Bool
are_fix fs = eqb (length fs) 5 && is_retired (field 0 fs)

-- the line is a `fix` row
unfoldable pub is_fix_lem : List ℕ → Bool
is_fix_lem l = are_fix (fields (up_to line_feed l))

-- how many of these lines are `fix` rows, and how many of a sheet's
abbrev pub fixes_in : List (List ℕ) → ℕ
fixes_in ls = count_by is_fix_lem ls

abbrev pub fixes : List ℕ → ℕ
fixes sheet = fixes_in (lines_of sheet)

-- the row with another kind, all of which have three letters
abbrev pub with_kind : Kind → List ℕ → List ℕ
with_kind k l = kind_text k ++ drop 3 l
