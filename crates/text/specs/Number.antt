-- Numbers as they are read: "`0`, or digits without a leading zero, with one `-` before it if it is negative" (01,
-- The sheet).
use Rattle.std.specs.Prelude.{Bool, false, ◌&&◌, ◌||◌, not, cond, List, [], ◌∷◌, ℕ, ◌+◌, ◌-◌, ◌*◌, ℤ, pos, neg_ℤ, eqb}
use Rattle.std.specs.Prelude.{leb, length, get_or, drop}
use Prim.Native.Char.{code}
use Rattle.prelude.specs.Bytes.{every}

abbrev pub is_digit : ℕ → Bool
is_digit b = leb (code "0") b && leb b (code "9")

-- digits, at least one, and no leading zero but that of `0` itself
abbrev pub is_natural : List ℕ → Bool
is_natural [] = false
is_natural (b ∷ s) = every is_digit (b ∷ s) && (not (eqb b (code "0")) || eqb (length s) 0)

-- the value of digits that stand behind others of value v
abbrev pub value_from : ℕ → List ℕ → ℕ
value_from v [] = v
value_from v (b ∷ s) = value_from (10 * v + (b - code "0")) s

abbrev pub is_negative : List ℕ → Bool
is_negative [] = false
is_negative (b ∷ s) = eqb b (code "-")

-- the digits without the sign
abbrev pub unsigned : List ℕ → List ℕ
unsigned f = cond (is_negative f) (drop 1 f) f

-- a well_formed number; `-0` is none
unfoldable pub is_number : List ℕ → Bool
is_number f = is_natural (unsigned f) && not (is_negative f && eqb (get_or f 1 0) (code "0"))

-- its size, and its value with the sign
abbrev pub magnitude : List ℕ → ℕ
magnitude f = value_from 0 (unsigned f)

abbrev pub value_of : List ℕ → ℤ
value_of f = cond (is_negative f) (neg_ℤ (pos (magnitude f))) (pos (magnitude f))

-- from lo to hi, neither of them negative
unfoldable pub in_range : ℕ → ℕ → List ℕ → Bool
in_range lo hi f = not (is_negative f) && (leb lo (magnitude f) && leb (magnitude f) hi)
