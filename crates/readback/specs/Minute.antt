-- The text of one cell, as it is read: a minute in digits, or the `-` that stands for 65,535. Any other is refused: "a
-- minute is ill-formed, negative or over 65,535" (02, point 4), "and the digits 65535 are refused with 19" (point 6).
use Rattle.std.specs.Prelude.{Bool, ◌&&◌, ◌||◌, cond, List, ℕ}
use Rattle.prelude.specs.Bytes.{ascii, same}
use Rattle.text.specs.Number.{is_number, in_range, magnitude}
use Rattle.network.specs.Limits as L

-- the last minute that is printed in digits, one before the blank
abbrev pub latest : ℕ
latest = 65534

-- whether the text is a blank, and whether it is a minute in digits
abbrev pub is_blank : List ℕ → Bool
is_blank f = same f (ascii "-")

abbrev pub in_digits : List ℕ → Bool
in_digits f = is_number f && in_range 0 latest f

-- whether the text is one of the two, and which number a table holds for it
unfoldable pub is_minute : List ℕ → Bool
is_minute f = is_blank f || in_digits f

unfoldable pub minute_of : List ℕ → ℕ
minute_of f = cond (is_blank f) L.blank (magnitude f)
