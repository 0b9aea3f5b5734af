-- Every byte but the count and the `fix` rows stands, in order: the sheet and the converted sheet are cut in the same
-- places. Assumes nothing.
use mathlib.Core.Path.{◌≡◌, sym, ◌∙◌, ap, ap₂}
use mathlib.Core.List.{List, ◌∷◌, ◌++◌, append_assoc, map, map-append}
use Prim.Native.Nat.{ℕ}
use native.Mathlib.Omega.{arith}
use lib.ListN.{length, take, drop}
use lib.Seq.{take-append_seam, drop-append_seam}
use Rattle.network.specs.declared.Network.{Network}
use Rattle.layout.specs.Contents.{Contents}
use Rattle.layout.specs.Layout.{lines}
use Rattle.conversion.specs.Rows.{lines_of}
use Rattle.conversion.specs.FormerRules.{heading_line}
use Rattle.conversion.specs.Converted.{doubled, resulting, converted, SameBytes, heading}
use Rattle.conversion.proofs.Sections.{lines-append, front, rear, joined}
use Rattle.conversion.proofs.FiveFields.{rear_other}
use Rattle.conversion.proofs.Others.{others-doubled}
use Rattle.conversion.proofs.Assembled.{converted-is}
use Rattle.conversion.proofs.Given.{Given, now, kept, heading_at, rows, lines-are, fixes-are, length-rows}

module _ {sheet : List ℕ} {Γ : Network} (g : Given sheet Γ) where
  abbrev c : Contents
  c = now g

  abbrev its : List (List ℕ)
  its = rows g

  pub converted_joined : converted sheet Γ ≡ joined (front c) (resulting sheet Γ) (map doubled its) (rear c)
  converted_joined =
      let tail = heading (length c.rules) ∷ (its ++ rear c) in
      let before : take (heading_line Γ) (lines_of sheet) ≡ front c =
      ap₂ (λ (n : ℕ) (ls : List (List ℕ)). take n ls) (heading_at g) (lines-are g)
      ∙ take-append_seam (front c) tail in
      let behind : drop 1 (drop (heading_line Γ) (lines_of sheet)) ≡ its ++ rear c =
      ap₂ (λ (n : ℕ) (ls : List (List ℕ)). drop 1 (drop n ls)) (heading_at g) (lines-are g)
      ∙ ap (drop 1) (drop-append_seam (front c) tail) in
      let rest : lines (map doubled (its ++ rear c)) ≡ lines (map doubled its) ++ lines (rear c) =
      rw (map-append doubled its (rear c), others-doubled (rear c) (rear_other c (kept g)))
      (lines-append (map doubled its) (rear c)) in
      sym (converted-is sheet Γ)
      ∙ ap₂ (λ (f b : List (List ℕ)). lines f ++ heading (resulting sheet Γ) ++ lines (map doubled b)) before behind
      ∙ ap (λ (t : List ℕ). lines (front c) ++ heading (resulting sheet Γ) ++ t) rest
      ∙ sym (append_assoc (lines (front c) ++ heading (resulting sheet Γ)) (lines (map doubled its)) (lines (rear c)))

  pub same_bytes : SameBytes sheet Γ (converted sheet Γ)
  same_bytes = record {
    above = front c;
    rows = its;
    behind = rear c;
    counted = omega (arith, g.holds.rules, length-rows g);
    alone = sym (fixes-are g);
    was =
        lines-are g
        ∙ ap (λ (n : ℕ). front c ++ heading n ∷ (its ++ rear c)) (sym g.holds.rules);
    is = converted_joined;
  }
