-- The lines of the text of contents that keep the layout's rules, whatever kinds of rules they have (`lines_of_text`):
-- each is a line. Assumes nothing.
use mathlib.Core.Path.{◌≡◌, sym, ◌∙◌, ap}
use mathlib.Core.Bool.{true}
use mathlib.Core.List.{List, [], ◌∷◌, ◌++◌, append-nil, map}
use Prim.Native.Nat.{ℕ}
use lib.ListN.{length}
use Rattle.prelude.specs.Bytes.{every}
use Rattle.prelude.specs.Lists.{Each}
use Rattle.prelude.proofs.Lists.{each_mono}
use Rattle.prelude.proofs.Parts.{each_cons, each_append}
use Rattle.text.specs.Lines.{plain}
use Rattle.layout.specs.Contents.{ContentsOf}
use Rattle.layout.specs.Keeps.{KeepsOf}
use Rattle.layout.specs.Layout.{lines, rule_line_by, text_by}
use Rattle.conversion.specs.Rows.{lines_of}
use Rattle.conversion.specs.Converted.{heading}
use Rattle.conversion.proofs.Lines.{IsLine, lines_of_lines}
use Rattle.conversion.proofs.Sections.{front, rear, lines-joined, text-joined}
use Rattle.conversion.proofs.FiveFields.{IsOther, front-other, heading_other, rear_other, rules-written}

module _ {K : Type 0} {d : K} (c : ContentsOf K) (k : KeepsOf d c) (word : K → List ℕ)
    (p : (x : K) → every plain (word x) ≡ true) where
  abbrev rules : List (List ℕ)
  rules = map (rule_line_by word) c.rules

  abbrev count : ℕ
  count = length c.rules

  abbrev all : List (List ℕ)
  all = front c ++ heading count ∷ (rules ++ rear c)

  all-written : Each IsLine all []
  all-written =
      let of_other : (l : List ℕ) → IsOther l → IsLine l = λ l o. o.written in
      each_append IsLine [] (front c) (heading count ∷ (rules ++ rear c)) (each_mono of_other (front-other c k))
      (each_cons IsLine [] (heading count) (rules ++ rear c) (heading_other count).written
      (each_append IsLine [] rules (rear c) (rules-written c k word p) (each_mono of_other (rear_other c k))))

  pub lines_of_text : lines_of (text_by word c) ≡ all
  lines_of_text =
      let text = text-joined word c ∙ sym (lines-joined (front c) count rules (rear c)) in
      ap lines_of (text ∙ sym (append-nil (lines all)))
      ∙ lines_of_lines all [] all-written ∙ append-nil all
