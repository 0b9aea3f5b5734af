-- The converter reads exactly the sheets that have the layout of a former sheet (`former_iff`). A former sheet with
-- `fix` read as `max` is the text of the contents in which a `max` stands for each `fix` (`read-layout`); and a sheet
-- that is the text of contents once it is read so is a former sheet (`former_layout`). Assumes nothing.
use mathlib.Core.Path.{◌≡◌, sym, ◌∙◌, ap, ap₂, subst}
use mathlib.Core.Logic.{◌↔◌}
use mathlib.Core.List.{List, [], ◌∷◌, ◌++◌, map, map-append}
use Prim.Native.Nat.{ℕ}
use native.Mathlib.Omega.{arith}
use lib.ListN.{length, length-map}
use Rattle.prelude.specs.Lists.{Each}
use Rattle.sheet.specs.Reading.{Accepts}
use Rattle.layout.specs.Contents.{Contents, no_rule_of}
use Rattle.layout.specs.Keeps.{KeepsOf, Keeps}
use Rattle.layout.specs.Layout.{lines, kind_text, rule_line, text_by, text_of, Layout}
use Rattle.layout.proofs.Accepted.{accepted_iff}
use Rattle.conversion.specs.FormerSheet.{Fix, former_kind_text, FormerContents, FormerLayout, held_rule}
use Rattle.conversion.specs.FormerSheet.{with_rules, held}
use Rattle.conversion.specs.Rows.{lines_of}
use Rattle.conversion.specs.FormerRules.{as_max, read_as_max_lem}
use Rattle.conversion.specs.Converted.{heading}
use Rattle.conversion.proofs.AsMax.{as_max-other}
use Rattle.conversion.proofs.Divided.{rows, lines-are, rows_are}
use Rattle.conversion.proofs.Fixes.{lines-stay}
use Rattle.conversion.proofs.FiveFields.{IsOther, front-other, heading-one, rear_other, rule-plain}
use Rattle.conversion.proofs.FormerRow.{former_row, PlainRow, plain-former_kind, rows_read, former_rules, former-rows}
use Rattle.conversion.proofs.FormerRow.{helds_former}
use Rattle.conversion.proofs.Held.{held_keeps, keeps_of_held}
use Rattle.conversion.proofs.Length.{length-read_as_max}
use Rattle.conversion.proofs.Lines.{lines_lines_of}
use Rattle.conversion.proofs.Others.{others-none}
use Rattle.conversion.proofs.Sections.{front, rear, joined, lines-joined, text-joined}
use Rattle.conversion.proofs.TextLines.{lines_of_text}

-- lines that are no rows are read as they are
others-read : (ls : List (List ℕ)) → Each IsOther ls [] → map as_max ls ≡ ls
others-read ls o = lines-stay as_max as_max-other ls (others-none ls o)

-- the text of former contents
module _ (c : FormerContents) (k : KeepsOf Fix c) where
  abbrev its : List (List ℕ)
  its = map former_row c.rules

  abbrev count : ℕ
  count = length c.rules

  pub plain_rows : Each PlainRow c.rules (no_rule_of Fix)
  plain_rows = rule-plain c k former_kind_text plain-former_kind

  pub former_lines : lines_of (text_by former_kind_text c) ≡ front c ++ heading count ∷ (its ++ rear c)
  former_lines = lines_of_text c k former_kind_text plain-former_kind

  lines_read : map as_max (front c ++ heading count ∷ (its ++ rear c))
      ≡ front c ++ heading count ∷ (map rule_line (held c).rules ++ rear c)
  lines_read =
      map-append as_max (front c) (heading count ∷ (its ++ rear c))
      ∙ ap₂ ◌++◌ (others-read (front c) (front-other c k))
      (map-append as_max (heading count ∷ []) (its ++ rear c)
      ∙ ap₂ ◌++◌ (others-read (heading count ∷ []) (heading-one count))
      (map-append as_max its (rear c)
      ∙ ap₂ ◌++◌ (rows_read c.rules plain_rows) (others-read (rear c) (rear_other c k))))

  pub former_read : read_as_max_lem (text_by former_kind_text c) ≡ text_of (held c)
  unfolding read_as_max_lem
  former_read =
      ap (λ (ls : List (List ℕ)). lines (map as_max ls)) former_lines ∙ ap lines lines_read
      ∙ lines-joined (front c) count (map rule_line (held c).rules) (rear c)
      ∙ ap (λ (n : ℕ). joined (front c) n (map rule_line (held c).rules) (rear c)) (sym (length-map c.rules held_rule))
      ∙ sym (text-joined kind_text (held c))

abbrev pub read-layout : (sheet : List ℕ) → FormerLayout sheet → Layout (read_as_max_lem sheet)
read-layout sheet l = record {
  contents = held l.contents;
  keeps = held_keeps l.contents l.keeps;
  written = ap read_as_max_lem l.written ∙ former_read l.contents l.keeps;
  short = omega (arith, l.short, length-read_as_max sheet);
}

-- a sheet that is read as the text of contents: the rules are those of its rows
module _ (sheet : List ℕ) (l : Layout (read_as_max_lem sheet)) where
  abbrev c : Contents
  c = l.contents

  abbrev found : List (List ℕ)
  found = rows sheet c l.keeps l.written

  abbrev former : FormerContents
  former = with_rules c (former_rules found c.rules)

  same_rules : map held_rule (former_rules found c.rules) ≡ c.rules
  same_rules = helds_former found c.rules (rows_are sheet c l.keeps l.written)

  held_is : held former ≡ c
  held_is = ap (with_rules c) same_rules

  is_written : sheet ≡ text_by former_kind_text former
  is_written =
      let n = length c.rules in
      let m : n ≡ length former.rules = omega (arith, ap length same_rules, length-map former.rules held_rule) in
      sym (lines_lines_of sheet) ∙ ap lines (lines-are sheet c l.keeps l.written)
      ∙ lines-joined (front c) n found (rear c)
      ∙ ap₂ (λ (n : ℕ) (ls : List (List ℕ)). joined (front c) n ls (rear c)) m
      (sym (former-rows found c.rules (rows_are sheet c l.keeps l.written)))
      ∙ sym (text-joined former_kind_text former)

  pub former_layout : FormerLayout sheet
  former_layout = record {
    contents = former;
    keeps = keeps_of_held former (subst Keeps (sym held_is) l.keeps);
    written = is_written;
    short = omega (arith, l.short, length-read_as_max sheet);
  }

pub former_iff : (sheet : List ℕ) → Accepts (read_as_max_lem sheet) ↔ FormerLayout sheet
former_iff sheet =
    let s = read_as_max_lem sheet in
    (λ a. former_layout sheet ((accepted_iff s).0 a), λ l. (accepted_iff s).1 (read-layout sheet l))
