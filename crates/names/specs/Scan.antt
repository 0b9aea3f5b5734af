-- A label byte by byte.
use Rattle.std.specs.Prelude.{Bool, ◌||◌, not, cond, List, ℕ, eqb}
use Rattle.std.specs.Bool.{beq}
use Prim.Native.Char.{code}
use Rattle.prelude.specs.Search.{answers}
use Rattle.names.specs.Names.{is_letter_lem}
use Rattle.names.specs.Defined.{place_of, weight}

-- whether this byte may stand here in a label; bang: a `!` stands before it
abbrev pub may_follow_lem : Bool → ℕ → Bool
may_follow_lem bang b = cond (eqb b (code "!")) (not bang) (is_letter_lem b)

-- whether this byte is a bang, or a letter that is defined
abbrev pub is_met_lem : ℕ → List ℕ → ℕ → Bool
is_met_lem k letters b = eqb b (code "!") || answers (place_of k letters b)

-- what this byte adds to the sum of the weights of the letters with truth v
abbrev pub added_by_lem : ℕ → List ℕ → Bool → Bool → ℕ → ℕ
added_by_lem k letters v bang b = cond (eqb b (code "!")) 0 (cond (beq v (not bang)) (weight k letters b) 0)
