-- A former sheet as it is read has no `fix` row, since each has become a `max` row (`fixes-read_as_max`); nor has the
-- text of contents that keep today's rules, since no rule of theirs is written with that word (`fixes-text`). Assumes
-- nothing.
use mathlib.Core.Path.{◌≡◌, refl, ◌∙◌, ap}
use mathlib.Core.Logic.{inl, inr}
use mathlib.Core.Bool.{Bool, false, ◌&&◌, and-false}
use mathlib.Core.List.{List, [], ◌∷◌, ◌++◌, map}
use Prim.Native.Nat.{ℕ, ◌≤◌}
use native.Mathlib.Omega.{arith}
use lib.Dec.{eqb}
use lib.ListN.{length, drop}
use Rattle.prelude.specs.Bytes.{ascii}
use Rattle.prelude.specs.Lists.{Each}
use Rattle.prelude.proofs.Tests.{either}
use Rattle.prelude.proofs.Lists.{each_mono}
use Rattle.prelude.proofs.Mapped.{each_map}
use Rattle.prelude.proofs.Parts.{each_cons, each_append}
use Rattle.text.specs.Lines.{line_feed, up_to, fields, field, into_first}
use Rattle.text.proofs.Fields.{1-le-fields}
use Rattle.text.proofs.Written.{Plain}
use Rattle.network.specs.declared.Kind.{Kind}
use Rattle.network.specs.declared.Kind.TheVariants.{Max, Min}
use Rattle.line.specs.Tests.{is_retired}
use Rattle.layout.specs.Contents.{Rule, Contents, no_rule}
use Rattle.layout.specs.Keeps.{Keeps}
use Rattle.layout.specs.Layout.{kind_text, rule_line, rule_fields, text_of}
use Rattle.layout.proofs.KindWords.{plain-kind}
use Rattle.conversion.specs.Rows.{lines_of, is_fix_lem, fixes_in, fixes}
use Rattle.conversion.specs.FormerRules.{as_max, read_as_max_lem}
use Rattle.conversion.specs.Converted.{heading}
use Rattle.conversion.proofs.AsMax.{as_max_fix, as_max-other, lines_of_read_as_max}
use Rattle.conversion.proofs.Fixes.{fixes_in-cons, none_each}
use Rattle.conversion.proofs.Others.{other-none}
use Rattle.conversion.proofs.Written.{fields-line}
use Rattle.conversion.proofs.Sections.{front, rear}
use Rattle.conversion.proofs.FiveFields.{IsOther, front-other, heading_other, rear_other, rule-plain}
use Rattle.conversion.proofs.TextLines.{lines_of_text}

-- the line is no `fix` row
abbrev Stays : List ℕ → Type 0
Stays l = is_fix_lem l ≡ false

-- the fields of a line that begins with `max`
abbrev behind_max : List (List ℕ) → List (List ℕ)
behind_max fs = into_first 109 (into_first 97 (into_first 120 fs))

max-word : (fs : List (List ℕ)) → 1 ≤ length fs → is_retired (field 0 (behind_max fs)) ≡ false
max-word [] h = absurd (omega arith)
max-word (f ∷ fs) h = refl

max-other : (d : List ℕ) → Stays (ascii "max" ++ d)
unfolding is_fix_lem
max-other d =
    let fs = fields (up_to line_feed d) in
    let five = eqb (length (behind_max fs)) 5 in
    ap (λ (b : Bool). five && b) (max-word fs (1-le-fields (up_to line_feed d))) ∙ and-false five

as_max-stays : (l : List ℕ) → Stays (as_max l)
as_max-stays l =
    elim (either (is_fix_lem l)) [
      | inl e ↦ rw (as_max_fix l e) (max-other (drop 3 l))
      | inr e ↦ rw (as_max-other l e) e
    ]

fixes_in-as_max : (ls : List (List ℕ)) → fixes_in (map as_max ls) ≡ 0
fixes_in-as_max [] = refl
fixes_in-as_max (l ∷ ls) =
    omega (arith, fixes_in-cons (as_max l) (map as_max ls) (as_max-stays l), fixes_in-as_max ls)

pub fixes-read_as_max : (sheet : List ℕ) → fixes (read_as_max_lem sheet) ≡ 0
fixes-read_as_max sheet = ap fixes_in (lines_of_read_as_max sheet) ∙ fixes_in-as_max (lines_of sheet)

kind_stays : (k : Kind) → is_retired (kind_text k) ≡ false
kind_stays Max = refl
kind_stays Min = refl

rule_fix : (x : Rule) → Plain (kind_text x.kind ∷ rule_fields x) → Stays (rule_line x)
unfolding is_fix_lem
rule_fix x p = rw (fields-line (kind_text x.kind) (rule_fields x) p, kind_stays x.kind)

pub fixes-text : (c : Contents) → Keeps c → fixes (text_of c) ≡ 0
fixes-text c k =
    let rules = map rule_line c.rules in
    let count = length c.rules in
    let others : (ls : List (List ℕ)) → Each IsOther ls [] → Each Stays ls [] = λ ls e. each_mono other-none e in
    ap fixes_in (lines_of_text c k kind_text plain-kind)
    ∙ none_each (front c ++ heading count ∷ (rules ++ rear c))
    (each_append Stays [] (front c) (heading count ∷ (rules ++ rear c)) (others (front c) (front-other c k))
    (each_cons Stays [] (heading count) (rules ++ rear c) (other-none (heading count) (heading_other count))
    (each_append Stays [] rules (rear c)
    (each_map rule_line Stays no_rule [] c.rules (each_mono rule_fix (rule-plain c k kind_text plain-kind)))
    (others (rear c) (rear_other c k)))))
