-- An upper bound as it is written, part behind part, is the line of its fields. Assumes nothing.
use mathlib.Core.Path.{◌≡◌}
use mathlib.Core.List.{List, [], ◌∷◌, ◌++◌, append_assoc}
use Prim.Native.Nat.{ℕ}
use Rattle.prelude.specs.Bytes.{ascii}
use Rattle.text.specs.Lines.{comma, line_feed, line}

-- the word and the two ends
abbrev pub ends_text : List ℕ → List ℕ → List ℕ
ends_text from to = ascii "max" ++ comma ∷ (from ++ comma ∷ to)

-- the limit behind it, then the label, then the line feed
pub rule-line : (from to limit label : List ℕ)
    → ((ends_text from to ++ comma ∷ limit) ++ comma ∷ label) ++ line_feed ∷ []
    ≡ line (ascii "max") (from ∷ to ∷ limit ∷ label ∷ [])
rule-line from to limit label = simp append_assoc
