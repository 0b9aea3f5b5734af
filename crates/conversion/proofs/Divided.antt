-- The lines of a sheet that with `fix` read as `max` is the text of contents (`lines-are`): those in front of the
-- heading of the rules, the heading and what stands behind the rules are the same lines, and between them stand rows
-- that are read as the rules' lines. Assumes nothing.
use mathlib.Core.Path.{◌≡◌, sym, ◌∙◌, ap, ap₂}
use mathlib.Core.List.{List, [], ◌∷◌, ◌++◌, map}
use Prim.Native.Nat.{ℕ}
use lib.ListN.{length, take, drop, take-append-drop}
use lib.Seq.{take-append_seam, drop-append_seam}
use Rattle.std.specs.List.{take-map, drop-map}
use Rattle.layout.specs.Contents.{Contents}
use Rattle.layout.specs.Keeps.{Keeps}
use Rattle.layout.specs.Layout.{kind_text, rule_line, text_of}
use Rattle.layout.proofs.KindWords.{plain-kind}
use Rattle.conversion.specs.Rows.{lines_of}
use Rattle.conversion.specs.FormerRules.{as_max, read_as_max_lem}
use Rattle.conversion.specs.Converted.{heading}
use Rattle.conversion.proofs.AsMax.{lines_of_read_as_max}
use Rattle.conversion.proofs.Sections.{front, rear}
use Rattle.conversion.proofs.FiveFields.{front-other, heading-one, rear_other}
use Rattle.conversion.proofs.TextLines.{lines_of_text}
use Rattle.conversion.proofs.Others.{others-are}

-- a list that was mapped, cut where its image is
map_parts : {A B : Type 0} (f : A → B) (xs : List A) (ys zs : List B) → map f xs ≡ ys ++ zs
    → (map f (take (length ys) xs) ≡ ys) × (map f (drop (length ys) xs) ≡ zs)
map_parts f xs ys zs e =
    let n = length ys in (
      sym (take-map f n xs) ∙ ap (take n) e ∙ take-append_seam ys zs,
      sym (drop-map f n xs) ∙ ap (drop n) e ∙ drop-append_seam ys zs,
    )

module _ (sheet : List ℕ) (c : Contents) (k : Keeps c) (written : read_as_max_lem sheet ≡ text_of c) where
  abbrev count : ℕ
  count = length c.rules

  -- the lines of the rules, as they are read
  abbrev read : List (List ℕ)
  read = map rule_line c.rules

  abbrev ls : List (List ℕ)
  ls = lines_of sheet

  -- where the heading of the rules stands
  abbrev at : ℕ
  at = length (front c)

  -- what stands behind the heading, and the rows there
  abbrev behind : List (List ℕ)
  behind = drop 1 (drop at ls)

  abbrev pub rows : List (List ℕ)
  rows = take (length read) behind

  -- the lines are cut three times, where those are cut as which they are read
  first : (map as_max (take at ls) ≡ front c) × (map as_max (drop at ls) ≡ heading count ∷ (read ++ rear c))
  first =
      map_parts as_max ls (front c) (heading count ∷ (read ++ rear c))
      (sym (lines_of_read_as_max sheet) ∙ ap lines_of written ∙ lines_of_text c k kind_text plain-kind)

  second : (map as_max (take 1 (drop at ls)) ≡ heading count ∷ []) × (map as_max behind ≡ read ++ rear c)
  second = map_parts as_max (drop at ls) (heading count ∷ []) (read ++ rear c) first.1

  third : (map as_max rows ≡ read) × (map as_max (drop (length read) behind) ≡ rear c)
  third = map_parts as_max behind read (rear c) second.1

  pub lines-are : lines_of sheet ≡ front c ++ heading count ∷ (rows ++ rear c)
  lines-are =
      let before = others-are (take at ls) (front c) first.0 (front-other c k) in
      let between = others-are (take 1 (drop at ls)) (heading count ∷ []) second.0 (heading-one count) in
      let after = others-are (drop (length read) behind) (rear c) third.1 (rear_other c k) in
      sym (take-append-drop at ls)
      ∙ ap₂ ◌++◌ before
      (sym (take-append-drop 1 (drop at ls))
      ∙ ap₂ ◌++◌ between
      (sym (take-append-drop (length read) behind) ∙ ap (λ (t : List (List ℕ)). rows ++ t) after))

  pub rows_are : map as_max rows ≡ map rule_line c.rules
  rows_are = third.0
