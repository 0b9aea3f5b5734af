-- Lines and their fields: "every line ends with a line feed (byte 10). Fields are separated by one comma" (01, The
-- sheet).
use Rattle.std.specs.Prelude.{Bool, true, false, ◌&&◌, not, List, [], ◌∷◌, ◌++◌, ℕ, ◌+◌, eqb, length, get_or, drop}
use Prim.Native.Char.{code}
use Rattle.prelude.specs.Bytes.{is_in}

abbrev pub line_feed : ℕ
line_feed = 10

abbrev pub comma : ℕ
comma = code ","

-- a byte of a field: neither a comma nor a line feed
abbrev pub plain : ℕ → Bool
plain b = not (eqb b comma) && not (eqb b line_feed)

-- a line as it is written: its first field and the others
abbrev pub line : List ℕ → List (List ℕ) → List ℕ
line f [] = f ++ line_feed ∷ []
line f (g ∷ gs) = f ++ comma ∷ line g gs

-- what stands before the first byte d, or everything where there is none
abbrev pub up_to : ℕ → List ℕ → List ℕ
up_to d [] = []
up_to d (b ∷ s) = elim (eqb b d) [ true ↦ [] | false ↦ b ∷ up_to d s ]

-- b put before the first of the fields
abbrev pub into_first : ℕ → List (List ℕ) → List (List ℕ)
into_first b [] = []
into_first b (f ∷ fs) = (b ∷ f) ∷ fs

-- the fields of a line; an empty line has one, which is empty
abbrev pub fields : List ℕ → List (List ℕ)
fields [] = [] ∷ []
fields (b ∷ s) = elim (eqb b comma) [ true ↦ [] ∷ fields s | false ↦ into_first b (fields s) ]

-- field i, or nothing where there are fewer
abbrev pub field : ℕ → List (List ℕ) → List ℕ
field i fs = get_or fs i []

module _ (s : List ℕ) (at : ℕ) where
  -- the line that begins at this place of s, whether it ends with a line feed, and where the next begins
  abbrev pub line_at : List ℕ
  line_at = up_to line_feed (drop at s)

  abbrev pub ends_at : Bool
  ends_at = is_in line_feed (drop at s)

  abbrev pub after_line : ℕ
  after_line = at + (length line_at + 1)
