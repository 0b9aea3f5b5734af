-- A sheet without `fix` rows is read as it stands (`read_as_max-without`), and becomes itself (`converted-without`).
-- Assumes nothing.
use mathlib.Core.Path.{◌≡◌, refl, sym, ◌∙◌, ap}
use mathlib.Core.List.{List, [], ◌∷◌}
use Prim.Native.Nat.{ℕ}
use native.Mathlib.Omega.{arith}
use lib.ListN.{length}
use Rattle.network.specs.declared.Network.{Network}
use Rattle.layout.specs.Contents.{Rule}
use Rattle.layout.specs.Layout.{lines, text_of}
use Rattle.conversion.specs.FormerSheet.{with_rules}
use Rattle.conversion.specs.Rows.{lines_of, fixes_in, fixes}
use Rattle.conversion.specs.FormerRules.{as_max, read_as_max_lem}
use Rattle.conversion.specs.Converted.{converted}
use Rattle.conversion.proofs.Lines.{lines_lines_of}
use Rattle.conversion.proofs.AsMax.{as_max-other}
use Rattle.conversion.proofs.Fixes.{none_cons, lines-stay}
use Rattle.conversion.proofs.Expanded.{expanded}
use Rattle.conversion.proofs.FormerLayout.{former_read}
use Rattle.conversion.proofs.Given.{Given, now, rows, fixes-are, length-rows}
use Rattle.conversion.proofs.Text.{converted-text}

pub read_as_max-without : (sheet : List ℕ) → fixes sheet ≡ 0 → read_as_max_lem sheet ≡ sheet
unfolding read_as_max_lem
read_as_max-without sheet e = ap lines (lines-stay as_max as_max-other (lines_of sheet) e) ∙ lines_lines_of sheet

-- each rule stays alone
expanded-without : (ls : List (List ℕ)) (xs : List Rule) → length ls ≡ length xs → fixes_in ls ≡ 0 → expanded ls xs ≡ xs
expanded-without [] [] h e = refl
expanded-without [] (x ∷ xs) h e = absurd (omega arith)
expanded-without (l ∷ ls) [] h e = absurd (omega arith)
expanded-without (l ∷ ls) (x ∷ xs) h e =
    let p = none_cons l ls e in
    rw (p.0) (ap (λ (ys : List Rule). x ∷ ys) (expanded-without ls xs (omega arith) p.1))

-- so such a sheet is read as the text of its contents, which it becomes
pub converted-without : {sheet : List ℕ} {Γ : Network} → Given sheet Γ → fixes sheet ≡ 0 → converted sheet Γ ≡ sheet
converted-without {sheet} g e =
    let stay = expanded-without (rows g) (now g).rules (length-rows g) (sym (fixes-are g) ∙ e) in
    converted-text g ∙ ap (λ (xs : List Rule). text_of (with_rules (now g) xs)) stay
    ∙ sym (ap read_as_max_lem g.written ∙ former_read g.contents g.keeps) ∙ read_as_max-without sheet e
