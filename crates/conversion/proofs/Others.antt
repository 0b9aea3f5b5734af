-- Lines that have not five fields: none of them is a `fix` row, so the converter leaves them as they are
-- (`others-doubled`); and lines that are read as them are the same (`others-are`). Assumes nothing.
use mathlib.Core.Path.{◌≡◌, refl, sym, ◌∙◌, ap, ap₂}
use mathlib.Core.Logic.{inl, inr}
use mathlib.Core.Bool.{false}
use mathlib.Core.List.{List, [], ◌∷◌, map}
use Prim.Native.Nat.{ℕ, suc}
use native.Mathlib.Omega.{arith}
use borrow.Author.Tests.{ne_eqb}
use lib.ListN.{length, get_or, drop}
use Rattle.prelude.specs.Lists.{Each}
use Rattle.prelude.proofs.Lists.{each_mono}
use Rattle.prelude.proofs.Tests.{either}
use Rattle.text.specs.Lines.{line_feed, up_to, fields}
use Rattle.conversion.specs.Rows.{is_fix_lem, fixes_in}
use Rattle.conversion.specs.FormerRules.{as_max}
use Rattle.conversion.specs.Converted.{doubled}
use Rattle.conversion.proofs.AsMax.{as_max_fix, as_max-other}
use Rattle.conversion.proofs.FiveFields.{IsOther}
use Rattle.conversion.proofs.Written.{fields-line, max-fields}
use Rattle.conversion.proofs.Fixes.{none_each, lines-stay}

-- how many fields a line has
abbrev count : List ℕ → ℕ
count l = length (fields (up_to line_feed l))

count-other : (l : List ℕ) (o : IsOther l) → count l ≡ suc (length o.written.others)
count-other l o =
    let w = o.written in
    ap count w.is ∙ ap length (fields-line w.one w.others w.plain_bytes)

pub other-none : (l : List ℕ) → IsOther l → is_fix_lem l ≡ false
unfolding is_fix_lem
other-none l o = rw (ne_eqb (count l) 5 (λ e. o.count (sym (count-other l o) ∙ e)))

other-is : (l m : List ℕ) → as_max l ≡ m → IsOther m → l ≡ m
other-is l m e o =
    elim (either (is_fix_lem l)) [
      | inl q ↦ absurd (o.count (sym (count-other m o) ∙ ap count (sym e ∙ as_max_fix l q) ∙ max-fields l q))
      | inr q ↦ sym (as_max-other l q) ∙ e
    ]

pub others-are : (ls ms : List (List ℕ)) → map as_max ls ≡ ms → Each IsOther ms [] → ls ≡ ms
others-are [] [] e w = refl
others-are [] (m ∷ ms) e w = absurd (omega (arith, ap length e))
others-are (l ∷ ls) [] e w = absurd (omega (arith, ap length e))
others-are (l ∷ ls) (m ∷ ms) e w =
    ap₂ (λ (x : List ℕ) (xs : List (List ℕ)). x ∷ xs)
    (other-is l m (ap (λ (x : List (List ℕ)). get_or x 0 []) e) (w.each 0 (omega arith)))
    (others-are ls ms (ap (λ (x : List (List ℕ)). drop 1 x) e) (record { each = λ i h. w.each (suc i) (omega arith) }))

pub others-none : (ls : List (List ℕ)) → Each IsOther ls [] → fixes_in ls ≡ 0
others-none ls w = none_each ls (each_mono other-none w)

pub others-doubled : (ls : List (List ℕ)) → Each IsOther ls [] → map doubled ls ≡ ls
others-doubled ls w = lines-stay doubled (λ l q. rw q refl) ls (others-none ls w)
