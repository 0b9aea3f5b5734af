-- The line of a rule as it is written, and what it was before `fix` was read as `max`: itself, or a `fix` row with the
-- same bytes behind the kind, which becomes the rule's line and that of its `min` (`rule-line`). Assumes nothing.
use mathlib.Core.Path.{◌≡◌, refl, sym, ◌∙◌, ap, ap₂}
use mathlib.Core.Logic.{inl, inr}
use mathlib.Core.Bool.{Bool, true, false}
use mathlib.Core.List.{List, [], ◌∷◌, ◌++◌, append-nil, map}
use Prim.Native.Nat.{ℕ}
use native.Mathlib.Omega.{arith}
use lib.ListN.{length, get_or, drop}
use Rattle.prelude.specs.Bytes.{ascii}
use Rattle.prelude.proofs.Tests.{either}
use Rattle.text.specs.Lines.{line_feed, up_to, line, fields, into_first}
use Rattle.text.proofs.Fields.{length-into_first}
use Rattle.text.proofs.Written.{Plain, is_read}
use Rattle.network.specs.declared.Kind.{Kind}
use Rattle.network.specs.declared.Kind.TheVariants.{Max, Min}
use Rattle.layout.specs.Contents.{Rule}
use Rattle.layout.specs.Layout.{kind_text, lines, rule_line, rule_fields}
use Rattle.conversion.specs.Rows.{is_fix_lem, with_kind}
use Rattle.conversion.specs.FormerRules.{as_max}
use Rattle.conversion.specs.Converted.{doubled}
use Rattle.conversion.proofs.Lines.{IsLine}
use Rattle.conversion.proofs.AsMax.{fix_fields, fix_front, as_max_fix, as_max-other}

-- the fields of a line as it is written
pub fields-line : (f : List ℕ) (gs : List (List ℕ)) → Plain (f ∷ gs) → fields (up_to line_feed (line f gs)) ≡ f ∷ gs
fields-line f gs p = (is_read (line f gs) 0 f gs [] p (sym (append-nil (line f gs)))).fields_are

-- a row has as many fields with another kind
length-kind : (d : List ℕ)
    → length (fields (up_to line_feed (ascii "max" ++ d))) ≡ length (fields (up_to line_feed (ascii "fix" ++ d)))
length-kind d =
    let fs = fields (up_to line_feed d) in
    three 109 97 120 fs ∙ sym (three 102 105 120 fs)
  where
    three : (a b c : ℕ) (fs : List (List ℕ)) → length (into_first a (into_first b (into_first c fs))) ≡ length fs
    three a b c fs =
        length-into_first a (into_first b (into_first c fs)) ∙ length-into_first b (into_first c fs)
        ∙ length-into_first c fs

pub max-fields : (l : List ℕ) → is_fix_lem l ≡ true → length (fields (up_to line_feed (with_kind Max l))) ≡ 5
max-fields l e =
    length-kind (drop 3 l) ∙ ap (λ (x : List ℕ). length (fields (up_to line_feed x))) (sym (fix_front l e))
    ∙ fix_fields l e

-- the rule with the kind `min`
abbrev pub as_min : Rule → Rule
as_min x = record x { kind = Min }

-- what a rule becomes, by whether its row is a `fix`
abbrev pub rows_of : Bool → Rule → List Rule
rows_of true x = x ∷ as_min x ∷ []
rows_of false x = x ∷ []

-- the kind whose line begins as a `max` row does
kind-max : (k : Kind) (gs : List (List ℕ)) (d : List ℕ) → line (kind_text k) gs ≡ ascii "max" ++ d → k ≡ Max
kind-max Max gs d e = refl
kind-max Min [] d e = absurd (let z = ap (λ (x : List ℕ). get_or x 1 0) e in omega (arith, z))
kind-max Min (g ∷ gs) d e = absurd (let z = ap (λ (x : List ℕ). get_or x 1 0) e in omega (arith, z))

-- a `max` row and a `min` row with the same bytes behind the kind
two_rows : (l : List ℕ) (x : Rule) → x.kind ≡ Max → rule_line x ≡ with_kind Max l
    → with_kind Max l ++ with_kind Min l ≡ rule_line x ++ rule_line (as_min x)
two_rows l x max is =
    let row : with_kind Max l ≡ line (kind_text Max) (rule_fields x) =
    sym is ∙ ap (λ (k : Kind). line (kind_text k) (rule_fields x)) max in
    ap₂ ◌++◌ (sym is) (ap (λ (d : List ℕ). ascii "min" ++ d) (ap (drop 3) row))

-- a `fix` row was read as a `max` row
pub fix_max : (l : List ℕ) (x : Rule) → as_max l ≡ rule_line x → is_fix_lem l ≡ true → x.kind ≡ Max
fix_max l x e q = kind-max x.kind (rule_fields x) (drop 3 l) (sym e ∙ as_max_fix l q)

-- so the row is a line, whatever its kind
pub row_line : (l : List ℕ) (x : Rule) → Plain (kind_text x.kind ∷ rule_fields x) → as_max l ≡ rule_line x → IsLine l
row_line l x p e =
    elim (either (is_fix_lem l)) [
      | inl q ↦
          let is : with_kind Max l ≡ line (kind_text Max) (rule_fields x) =
          sym (as_max_fix l q) ∙ e ∙ ap (λ (k : Kind). line (kind_text k) (rule_fields x)) (fix_max l x e q) in
          record {
            one = ascii "fix";
            others = rule_fields x;
            plain_bytes = (refl, p.1);
            is = fix_front l q ∙ ap (λ (d : List ℕ). ascii "fix" ++ d) (ap (drop 3) is);
          }
      | inr q ↦
          record {
            one = kind_text x.kind;
            others = rule_fields x;
            plain_bytes = p;
            is = sym (as_max-other l q) ∙ e;
          }
    ]

pub rule-line : (l : List ℕ) (x : Rule) → as_max l ≡ rule_line x
    → doubled l ≡ lines (map rule_line (rows_of (is_fix_lem l) x))
rule-line l x e =
    elim (either (is_fix_lem l)) [
      | inl q ↦
          rw (q, append-nil (rule_line (as_min x))) (two_rows l x (fix_max l x e q) (sym e ∙ as_max_fix l q))
      | inr q ↦ rw (q, append-nil (rule_line x)) (sym (as_max-other l q) ∙ e)
    ]
