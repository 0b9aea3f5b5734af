-- The converted sheet is the text of contents (`converted-text`): those of the sheet as today's reader is given it,
-- with the rules that result of its rows. Assumes nothing.
use mathlib.Core.Path.{◌≡◌, refl, sym, ◌∙◌, ap, ap₂}
use mathlib.Core.Bool.{Bool}
use mathlib.Core.List.{List, [], ◌∷◌, ◌++◌, map}
use Prim.Native.Nat.{ℕ, suc}
use native.Mathlib.Omega.{arith}
use lib.ListN.{length}
use Rattle.network.specs.declared.Network.{Network}
use Rattle.prelude.specs.Lists.{Each}
use Rattle.layout.specs.Contents.{Rule, Contents, no_rule_of}
use Rattle.layout.specs.Layout.{lines, kind_text, text_of}
use Rattle.conversion.specs.FormerSheet.{FormerKind, Today, Fix, held_rule, with_rules}
use Rattle.conversion.specs.Converted.{resulting, converted, heading, rules_for, all_rules_for, converted_contents}
use Rattle.conversion.proofs.Sections.{front, rear, text-joined}
use Rattle.conversion.proofs.Expanded.{expanded, rows-doubled, length_expanded}
use Rattle.conversion.proofs.Given.{Given, now, rows, rows_are, fixes-are, length-rows}
use Rattle.conversion.proofs.FormerLayout.{plain_rows}
use Rattle.conversion.proofs.FormerRow.{FormerRule, former_row, PlainRow, is_fix_kind, row_fix}
use Rattle.conversion.proofs.Written.{rows_of}
use Rattle.conversion.proofs.Bytes.{converted_joined}

-- the rules that result of rows are those that stand for the former rules
expanded-is : (xs : List FormerRule) → Each PlainRow xs (no_rule_of Fix)
    → expanded (map former_row xs) (map held_rule xs) ≡ all_rules_for xs
expanded-is [] p = refl
expanded-is (x ∷ xs) p =
    ap₂ ◌++◌
    (ap (λ (b : Bool). rows_of b (held_rule x)) (row_fix x (p.each 0 (omega arith))) ∙ of_kind x.kind)
    (expanded-is xs (record { each = λ i h. p.each (suc i) (omega arith) }))
  where
    of_kind : (k : FormerKind) → rows_of (is_fix_kind k) (held_rule (record x { kind = k }))
        ≡ rules_for (record x { kind = k })
    of_kind (Today k) = refl
    of_kind Fix = refl

module _ {sheet : List ℕ} {Γ : Network} (g : Given sheet Γ) where
  abbrev c : Contents
  c = now g

  -- the rules that result, and the contents with these
  abbrev pub results : List Rule
  results = expanded (rows g) c.rules

  abbrev pub becomes : Contents
  becomes = with_rules c results

  pub length_results : length results ≡ resulting sheet Γ
  length_results =
      omega (arith, length_expanded (rows g) c.rules (length-rows g), fixes-are g, g.holds.rules)

  pub converted-text : converted sheet Γ ≡ text_of becomes
  converted-text =
      converted_joined g
      ∙ ap₂ (λ (n : ℕ) (t : List ℕ). lines (front c) ++ heading n ++ t ++ lines (rear c)) (sym length_results)
      (rows-doubled (rows g) c.rules (rows_are g))
      ∙ sym (text-joined kind_text becomes)

  -- which are those of the former contents
  pub becomes-is : becomes ≡ converted_contents g.contents
  becomes-is = ap (with_rules g.contents) (expanded-is g.contents.rules (plain_rows g.contents g.keeps))
