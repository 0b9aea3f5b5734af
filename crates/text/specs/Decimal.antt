-- Numbers as they are written, in base ten and without a leading zero (01, The printed listing).
use Rattle.std.specs.Prelude.{true, false, List, [], ◌∷◌, ◌++◌, ℕ, zero, suc, ◌+◌, ◌/◌, ◌%◌, ltb}
use Prim.Native.Char.{code}

-- the digits of v, of which there are at most as many as the first number says
abbrev pub digits_within : ℕ → ℕ → List ℕ
digits_within zero v = []
digits_within (suc f) v =
    elim (ltb v 10) [
      | true ↦ (code "0" + v) ∷ []
      | false ↦ digits_within f (v / 10) ++ (code "0" + v % 10) ∷ []
    ]

abbrev pub decimal : ℕ → List ℕ
decimal v = digits_within (suc v) v
