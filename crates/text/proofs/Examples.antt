-- What the definitions say at their edges: one table, which one theorem covers by computation. Assumes nothing.
use mathlib.Core.Path.{◌≡◌, refl}
use mathlib.Core.Bool.{Bool, true, false, cond}
use mathlib.Core.Option.{Option, none, some}
use mathlib.Core.List.{List, [], ◌∷◌, map}
use Prim.Native.Nat.{ℕ}
use Prim.Native.String.{String}
use Rattle.prelude.specs.Bytes.{ascii}
use Rattle.text.specs.Lines.{fields}
use Rattle.text.specs.Number.{is_number, is_negative, magnitude}
use Rattle.text.specs.Decimal.{decimal}

-- the sign and the size of a number, or nothing where it is ill-formed
abbrev reading : String → Option (Bool × ℕ)
reading s = cond (is_number (ascii s)) (some (is_negative (ascii s), magnitude (ascii s))) none

abbrev minus : ℕ → Option (Bool × ℕ)
minus v = some (true, v)

abbrev plus : ℕ → Option (Bool × ℕ)
plus v = some (false, v)

abbrev numbers : List (String × Option (Bool × ℕ))
numbers =
    ("0", plus 0)
    ∷ ("7", plus 7)
    ∷ ("10080", plus 10080)
    ∷ ("18446744073709551621", plus 18446744073709551621)
    ∷ ("-5", minus 5)
    ∷ ("-10", minus 10)
    ∷ ("", none)
    ∷ ("-", none)
    ∷ ("00", none)
    ∷ ("010", none)
    ∷ ("-0", none)
    ∷ ("-05", none)
    ∷ ("+5", none)
    ∷ ("--1", none)
    ∷ ("1a", none)
    ∷ (" 1", none)
    ∷ []

abbrev lines : List (String × List String)
lines =
    ("", "" ∷ []) ∷ (",", "" ∷ "" ∷ []) ∷ ("a", "a" ∷ []) ∷ ("a,b", "a" ∷ "b" ∷ []) ∷ (",,x", "" ∷ "" ∷ "x" ∷ []) ∷ []

abbrev written : List (ℕ × String)
written = (0, "0") ∷ (9, "9") ∷ (10, "10") ∷ (65535, "65535") ∷ []

-- all that the definitions say, and all that they are to say
record Table : Type 0 where
  numbers_read : List (Option (Bool × ℕ))
  fields_of : List (List (List ℕ))
  numbers_written : List (List ℕ)

abbrev said : Table
said =
    record {
      numbers_read = map (λ x. reading x.0) numbers;
      fields_of = map (λ x. fields (ascii x.0)) lines;
      numbers_written = map (λ x. decimal x.0) written;
    }

abbrev due : Table
due =
    record {
      numbers_read = map (λ x. x.1) numbers;
      fields_of = map (λ x. map ascii x.1) lines;
      numbers_written = map (λ x. ascii x.1) written;
    }

pub examples_agree : said ≡ due
unfolding is_number
examples_agree = refl
