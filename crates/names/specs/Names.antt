-- Names, letters and labels as they are written (01, The sheet).
use Rattle.std.specs.Prelude.{Bool, true, false, ◌&&◌, ◌||◌, not, List, [], ◌∷◌, map, ℕ, eqb, leb, length, get_or}
use Prim.Native.Char.{code}
use Rattle.prelude.specs.Bytes.{ascii, same, every}
use Rattle.text.specs.Number.{is_digit}

-- "one of a to z"
abbrev pub is_letter_lem : ℕ → Bool
is_letter_lem b = leb (code "a") b && leb b (code "z")

-- "1 to 8 bytes, a lower-case letter, then lower-case letters or digits"
abbrev pub is_name_lem : List ℕ → Bool
is_name_lem [] = false
is_name_lem (b ∷ s) = is_letter_lem b && (every (λ c. is_letter_lem c || is_digit c) s && leb (length (b ∷ s)) 8)

-- a signal's letter: a field of one byte
abbrev pub is_one_letter_lem : List ℕ → Bool
is_one_letter_lem f = eqb (length f) 1 && is_letter_lem (get_or f 0 0)

-- "one or more letters, each with an optional `!` before it"; bang: one has just been read
abbrev pub are_literals_lem : Bool → List ℕ → Bool
are_literals_lem bang [] = not bang
are_literals_lem bang (b ∷ s) =
    elim (eqb b (code "!")) [
      | true ↦ not bang && are_literals_lem true s
      | false ↦ is_letter_lem b && are_literals_lem false s
    ]

-- "`-` (every case)"
abbrev pub is_dash_lem : List ℕ → Bool
is_dash_lem f = same f (ascii "-")

abbrev pub is_label_lem : List ℕ → Bool
is_label_lem f = is_dash_lem f || (leb 1 (length f) && are_literals_lem false f)

-- a letter of a label, and the truth that the label asks of it
pub record Literal : Type 0 where
  pub letter : ℕ
  pub value : Bool

abbrev pub literals : Bool → List ℕ → List Literal
literals bang [] = []
literals bang (b ∷ s) =
    elim (eqb b (code "!")) [
      | true ↦ literals true s
      | false ↦ record { letter = b; value = not bang } ∷ literals false s
    ]

-- the literals of a label; `-` has none
abbrev pub label_of : List ℕ → List Literal
label_of f = elim (is_dash_lem f) [ true ↦ [] | false ↦ literals false f ]

abbrev pub letters_of : List Literal → List ℕ
letters_of ls = map (λ l. l.letter) ls
