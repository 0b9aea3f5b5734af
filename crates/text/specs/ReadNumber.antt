-- What reading a number answers: ill-formed, or its sign and its size. A size over `most` is answered as one more
-- than `most`, so that "a well_formed number is beyond its range, however many digits it has" (01, Refused sheets)
-- needs no wide arithmetic.
use Rattle.std.specs.Prelude.{Bool, cond, List, ℕ, ◌+◌, min, Option, Some, None}
use Rattle.prelude.specs.Bytes.{every}
use Rattle.text.specs.Number.{is_digit, is_natural, value_from, is_number, is_negative, magnitude}
use Rattle.text.specs.declared.Number.{Number}
use Rattle.text.specs.declared.Number.TheVariants.{Plus, Minus}

abbrev pub capped : ℕ → ℕ → ℕ
capped most v = min v (most + 1)

-- the size of f, where it is well formed
abbrev pub sized : Bool → ℕ → Option ℕ
sized ok v = cond ok (Some v) None

-- any digits, and those that are a number with no sign
abbrev pub read_digits_lem : ℕ → List ℕ → Option ℕ
read_digits_lem most f = sized (every is_digit f) (capped most (value_from 0 f))

abbrev pub read_natural_lem : ℕ → List ℕ → Option ℕ
read_natural_lem most f = sized (is_natural f) (capped most (value_from 0 f))

-- a number with its sign
unfoldable pub read_number_lem : ℕ → List ℕ → Option Number
read_number_lem most f =
    cond (is_number f)
    (Some (cond (is_negative f) (Minus (capped most (magnitude f))) (Plus (capped most (magnitude f)))))
    None
