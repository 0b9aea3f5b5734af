-- A former sheet and a network that holds its contents, and the lines of the sheet: those in front of the heading of
-- the rules, the heading, as many rows as there are rules, and those behind them. Assumes nothing.
use mathlib.Core.Path.{◌≡◌, sym, ◌∙◌, ap}
use mathlib.Core.List.{List, [], ◌∷◌, ◌++◌, map}
use Prim.Native.Nat.{ℕ, ◌<◌}
use native.Mathlib.Omega.{arith}
use lib.ListN.{length, get_or, length-map}
use Rattle.prelude.proofs.Mapped.{get_d_map}
use Rattle.network.specs.declared.Network.{Network}
use Rattle.layout.specs.Contents.{Contents, no_rule, no_rule_of}
use Rattle.layout.specs.Keeps.{KeepsOf, Keeps}
use Rattle.layout.specs.Layout.{rule_line, text_by}
use Rattle.conversion.specs.FormerSheet.{Fix, former_kind_text, FormerContents, FormerContains, kind_at, held_rule}
use Rattle.conversion.specs.FormerSheet.{held}
use Rattle.conversion.specs.Rows.{lines_of, is_fix_lem, fixes_in, fixes}
use Rattle.conversion.specs.FormerRules.{as_max, heading_line}
use Rattle.conversion.specs.Converted.{heading}
use Rattle.conversion.proofs.FiveFields.{front-other, heading-one, rear_other}
use Rattle.conversion.proofs.Fixes.{fixes_in-append}
use Rattle.conversion.proofs.FormerLayout.{plain_rows, former_lines}
use Rattle.conversion.proofs.FormerRow.{former_row, is_fix_kind, row_fix, rows_read}
use Rattle.conversion.proofs.Held.{held_keeps}
use Rattle.conversion.proofs.Others.{others-none}
use Rattle.conversion.proofs.Sections.{front, rear, length_front}

pub record Given (sheet : List ℕ) (Γ : Network) : Type 0 where
  pub contents : FormerContents
  pub keeps : KeepsOf Fix contents
  pub written : sheet ≡ text_by former_kind_text contents
  pub holds : FormerContains sheet Γ contents

module _ {sheet : List ℕ} {Γ : Network} (g : Given sheet Γ) where
  -- the contents with a `max` for each `fix`
  abbrev pub now : Contents
  now = held g.contents

  pub kept : Keeps now
  kept = held_keeps g.contents g.keeps

  pub heading_at : heading_line Γ ≡ length (front now)
  heading_at = omega (arith, length_front now, g.holds.events, g.holds.signals)

  abbrev pub rows : List (List ℕ)
  rows = map former_row g.contents.rules

  pub length-rows : length rows ≡ length now.rules
  length-rows = length-map g.contents.rules former_row ∙ sym (length-map g.contents.rules held_rule)

  pub lines-are : lines_of sheet ≡ front now ++ heading (length now.rules) ∷ (rows ++ rear now)
  lines-are =
      ap lines_of g.written ∙ former_lines g.contents g.keeps
      ∙ ap (λ (n : ℕ). front now ++ heading n ∷ (rows ++ rear now)) (sym (length-map g.contents.rules held_rule))

  -- each row is read as the line of its rule
  pub rows_are : map as_max rows ≡ map rule_line now.rules
  rows_are = rows_read g.contents.rules (plain_rows g.contents g.keeps)

  pub row-read : (i : ℕ) → i < length now.rules → as_max (get_or rows i []) ≡ rule_line (get_or now.rules i no_rule)
  row-read i h =
      sym (get_d_map as_max [] [] rows i (omega (arith, length-rows)))
      ∙ ap (λ (x : List (List ℕ)). get_or x i []) rows_are ∙ get_d_map rule_line no_rule [] now.rules i h

  -- and whether it is a `fix` row is what the rule's kind says
  pub row-kind : (i : ℕ) → i < length now.rules → is_fix_lem (get_or rows i []) ≡ is_fix_kind (kind_at g.contents i)
  row-kind i h =
      let xs = g.contents.rules in
      let l : i < length xs = omega (arith, length-map xs held_rule) in
      ap is_fix_lem (get_d_map former_row (no_rule_of Fix) [] xs i l)
      ∙ row_fix (get_or xs i (no_rule_of Fix)) ((plain_rows g.contents g.keeps).each i l)

  -- only rows are `fix` rows
  pub fixes-are : fixes sheet ≡ fixes_in rows
  fixes-are =
      let row = heading (length now.rules) in
      omega (
        arith,
        ap fixes_in lines-are,
        fixes_in-append (front now) (row ∷ (rows ++ rear now)),
        fixes_in-append (row ∷ []) (rows ++ rear now),
        fixes_in-append rows (rear now),
        others-none (front now) (front-other now kept),
        others-none (row ∷ []) (heading-one (length now.rules)),
        others-none (rear now) (rear_other now kept),
      )
