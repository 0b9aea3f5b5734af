-- The rules that result of rows that were read with `fix` as `max`: the converted rows are their lines
-- (`rows-doubled`). Assumes nothing.
use mathlib.Core.Path.{◌≡◌, refl, sym, ◌∙◌, ap, ap₂}
use mathlib.Core.Bool.{Bool, true, false, cond}
use mathlib.Core.List.{List, [], ◌∷◌, ◌++◌, map, map-append}
use Prim.Native.Nat.{ℕ, ◌+◌}
use native.Mathlib.Omega.{arith}
use lib.ListN.{length, get_or, drop, length-append}
use Rattle.layout.specs.Contents.{Rule}
use Rattle.layout.specs.Layout.{lines, rule_line}
use Rattle.conversion.specs.Rows.{is_fix_lem, fixes_in}
use Rattle.conversion.specs.FormerRules.{as_max}
use Rattle.conversion.specs.Converted.{doubled}
use Rattle.conversion.proofs.Sections.{lines-append}
use Rattle.conversion.proofs.Written.{rows_of, rule-line}
use Rattle.conversion.proofs.Fixes.{fixes_in-cons}

-- the rules that result, of these rows
abbrev pub expanded : List (List ℕ) → List Rule → List Rule
expanded [] xs = []
expanded (l ∷ ls) [] = []
expanded (l ∷ ls) (x ∷ xs) = rows_of (is_fix_lem l) x ++ expanded ls xs

pub rows-doubled : (ls : List (List ℕ)) (xs : List Rule) → map as_max ls ≡ map rule_line xs
    → lines (map doubled ls) ≡ lines (map rule_line (expanded ls xs))
rows-doubled [] xs e = refl
rows-doubled (l ∷ ls) [] e = absurd (omega (arith, ap length e))
rows-doubled (l ∷ ls) (x ∷ xs) e =
    let head : as_max l ≡ rule_line x = ap (λ (z : List (List ℕ)). get_or z 0 []) e in
    ap₂ ◌++◌ (rule-line l x head) (rows-doubled ls xs (ap (drop 1) e))
    ∙ sym (lines-append (map rule_line (rows_of (is_fix_lem l) x)) (map rule_line (expanded ls xs)))
    ∙ sym (ap lines (map-append rule_line (rows_of (is_fix_lem l) x) (expanded ls xs)))

pub length_expanded : (ls : List (List ℕ)) (xs : List Rule) → length ls ≡ length xs
    → length (expanded ls xs) ≡ length xs + fixes_in ls
length_expanded [] [] h = refl
length_expanded [] (x ∷ xs) h = absurd (omega arith)
length_expanded (l ∷ ls) [] h = absurd (omega arith)
length_expanded (l ∷ ls) (x ∷ xs) h =
    omega (
      arith,
      length-append (rows_of (is_fix_lem l) x) (expanded ls xs),
      length_rows (is_fix_lem l) x,
      fixes_in-cons l ls refl,
      length_expanded ls xs (omega arith),
    )
  where
    length_rows : (b : Bool) (x : Rule) → length (rows_of b x) ≡ 1 + cond b 1 0
    length_rows true x = refl
    length_rows false x = refl
