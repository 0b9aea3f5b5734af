-- The row of a former rule: whether it is a `fix` row is what its kind says (`row_fix`), and read with `fix` as `max`
-- it is the line of the rule that stands for it (`row_read`). And the other way round, a line that is read as a rule's
-- is the row of a former rule (`former-row`) for which that rule stands (`held_former`). Assumes nothing.
use mathlib.Core.Path.{◌≡◌, refl, sym, ◌∙◌, ap, ap₂}
use mathlib.Core.Logic.{inl, inr}
use mathlib.Core.Bool.{Bool, true, false, cond}
use mathlib.Core.List.{List, [], ◌∷◌, ◌++◌, map}
use Prim.Native.Nat.{ℕ, suc}
use native.Mathlib.Omega.{arith}
use lib.ListN.{length, get_or, drop}
use Rattle.prelude.specs.Bytes.{ascii, every}
use Rattle.prelude.specs.Lists.{Each}
use Rattle.prelude.proofs.Tests.{either}
use Rattle.text.specs.Lines.{plain, line}
use Rattle.text.proofs.Written.{Plain}
use Rattle.network.specs.declared.Kind.{Kind}
use Rattle.network.specs.declared.Kind.TheVariants.{Max, Min}
use Rattle.layout.specs.Contents.{RuleOf, Rule, no_rule_of}
use Rattle.layout.specs.Layout.{kind_text, rule_fields, rule_line_by, rule_line}
use Rattle.layout.proofs.KindWords.{plain-kind}
use Rattle.conversion.specs.FormerSheet.{FormerKind, Today, Fix, former_kind_text, held_rule}
use Rattle.conversion.specs.Rows.{are_fix, is_fix_lem, with_kind}
use Rattle.conversion.specs.FormerRules.{as_max}
use Rattle.conversion.proofs.AsMax.{fix_front, as_max_fix, as_max-other}
use Rattle.conversion.proofs.Written.{fields-line, fix_max}

-- a former rule, and its row
abbrev pub FormerRule : Type 0
FormerRule = RuleOf FormerKind

abbrev pub former_row : FormerRule → List ℕ
former_row x = rule_line_by former_kind_text x

abbrev pub PlainRow : FormerRule → Type 0
PlainRow x = Plain (former_kind_text x.kind ∷ rule_fields x)

pub plain-former_kind : (k : FormerKind) → every plain (former_kind_text k) ≡ true
plain-former_kind (Today k) = plain-kind k
plain-former_kind Fix = refl

abbrev pub is_fix_kind : FormerKind → Bool
is_fix_kind (Today k) = false
is_fix_kind Fix = true

pub row_fix : (x : FormerRule) → PlainRow x → is_fix_lem (former_row x) ≡ is_fix_kind x.kind
unfolding is_fix_lem
row_fix x p = ap are_fix (fields-line (former_kind_text x.kind) (rule_fields x) p) ∙ word x.kind
  where
    word : (k : FormerKind) → are_fix (former_kind_text k ∷ rule_fields x) ≡ is_fix_kind k
    word (Today Max) = refl
    word (Today Min) = refl
    word Fix = refl

pub row_read : (x : FormerRule) → PlainRow x → as_max (former_row x) ≡ rule_line (held_rule x)
row_read x p = by_kind x.kind (row_fix x p)
  where
    by_kind : (k : FormerKind) → is_fix_lem (line (former_kind_text k) (rule_fields x)) ≡ is_fix_kind k
        → as_max (line (former_kind_text k) (rule_fields x)) ≡ rule_line (held_rule (record x { kind = k }))
    by_kind (Today k) e = as_max-other (line (kind_text k) (rule_fields x)) e
    by_kind Fix e = as_max_fix (line (ascii "fix") (rule_fields x)) e

-- the rule of a row, where x is the rule that it is read as
abbrev pub former_rule : List ℕ → Rule → FormerRule
former_rule l x = record {
  kind = cond (is_fix_lem l) Fix (Today x.kind);
  from = x.from;
  to = x.to;
  limit = x.limit;
  label = x.label;
}

pub former-row : (l : List ℕ) (x : Rule) → as_max l ≡ rule_line x → former_row (former_rule l x) ≡ l
former-row l x e =
    elim (either (is_fix_lem l)) [
      | inl q ↦
          let is : with_kind Max l ≡ line (kind_text Max) (rule_fields x) =
          sym (as_max_fix l q) ∙ e ∙ ap (λ (k : Kind). line (kind_text k) (rule_fields x)) (fix_max l x e q) in
          rw q (sym (fix_front l q ∙ ap (λ (d : List ℕ). ascii "fix" ++ d) (ap (drop 3) is)))
      | inr q ↦ rw q (sym e ∙ as_max-other l q)
    ]

pub held_former : (l : List ℕ) (x : Rule) → as_max l ≡ rule_line x → held_rule (former_rule l x) ≡ x
held_former l x e =
    elim (either (is_fix_lem l)) [
      | inl q ↦ rw q (ap (λ (k : Kind). record x { kind = k }) (sym (fix_max l x e q)))
      | inr q ↦ rw q refl
    ]

-- of all rows
pub rows_read : (xs : List FormerRule) → Each PlainRow xs (no_rule_of Fix)
    → map as_max (map former_row xs) ≡ map rule_line (map held_rule xs)
rows_read [] p = refl
rows_read (x ∷ xs) p =
    ap₂ (λ (l : List ℕ) (ls : List (List ℕ)). l ∷ ls) (row_read x (p.each 0 (omega arith)))
    (rows_read xs (record { each = λ i h. p.each (suc i) (omega arith) }))

abbrev pub former_rules : List (List ℕ) → List Rule → List FormerRule
former_rules [] xs = []
former_rules (l ∷ ls) [] = []
former_rules (l ∷ ls) (x ∷ xs) = former_rule l x ∷ former_rules ls xs

pub former-rows : (ls : List (List ℕ)) (xs : List Rule) → map as_max ls ≡ map rule_line xs
    → map former_row (former_rules ls xs) ≡ ls
former-rows [] xs e = refl
former-rows (l ∷ ls) [] e = absurd (omega (arith, ap length e))
former-rows (l ∷ ls) (x ∷ xs) e =
    ap₂ (λ (l : List ℕ) (ls : List (List ℕ)). l ∷ ls)
    (former-row l x (ap (λ (z : List (List ℕ)). get_or z 0 []) e)) (former-rows ls xs (ap (drop 1) e))

pub helds_former : (ls : List (List ℕ)) (xs : List Rule) → map as_max ls ≡ map rule_line xs
    → map held_rule (former_rules ls xs) ≡ xs
helds_former [] [] e = refl
helds_former [] (x ∷ xs) e = absurd (omega (arith, ap length e))
helds_former (l ∷ ls) [] e = absurd (omega (arith, ap length e))
helds_former (l ∷ ls) (x ∷ xs) e =
    ap₂ (λ (x : Rule) (xs : List Rule). x ∷ xs)
    (held_former l x (ap (λ (z : List (List ℕ)). get_or z 0 []) e)) (helds_former ls xs (ap (drop 1) e))
