-- The converted sheet (02, point 7): "a `max` and a `min` row in the place of each `fix`; every other byte but the
-- count of rules stays".
use Rattle.std.specs.Prelude.{◌≡◌, cond, List, [], ◌∷◌, ◌++◌, map, ℕ, suc, ◌+◌, length, take, drop}
use Rattle.prelude.specs.Bytes.{ascii}
use Rattle.text.specs.Decimal.{decimal}
use Rattle.text.specs.Lines.{line}
use Rattle.network.specs.declared.Kind.TheVariants.{Max, Min}
use Rattle.network.specs.declared.Network.{Network}
use Rattle.layout.specs.Contents.{RuleOf, Rule, Contents}
use Rattle.layout.specs.Layout.{lines}
use Rattle.conversion.specs.FormerSheet.{FormerKind, Today, Fix, FormerContents, with_today, with_rules}
use Rattle.conversion.specs.Rows.{lines_of, is_fix_lem, fixes_in, fixes, with_kind}
use Rattle.conversion.specs.FormerRules.{heading_line}

-- "a `max` and a `min` row in the place of each `fix`", with the bytes that stand behind its kind
abbrev pub doubled : List ℕ → List ℕ
doubled l = cond (is_fix_lem l) (with_kind Max l ++ with_kind Min l) l

-- the heading of so many rules
abbrev pub heading : ℕ → List ℕ
heading n = line (ascii "rules") (decimal n ∷ [])

module _ (sheet : List ℕ) (Γ : Network) where
  -- how many rules result
  abbrev pub resulting : ℕ
  resulting = Γ.rules + fixes sheet

  -- what stands before the heading of the rules, the heading with its count, and what stands behind it
  unfoldable pub converted : List ℕ
  converted =
      lines (take (heading_line Γ) (lines_of sheet))
      ++ heading resulting
      ++ lines (map doubled (drop (suc (heading_line Γ)) (lines_of sheet)))

-- so the converted sheet contains what the former one does, with a `max` and a `min` rule in the place of each `fix`
abbrev pub rules_for : RuleOf FormerKind → List Rule
rules_for x =
    elim x.kind [
      | Today k ↦ with_today k x ∷ []
      | Fix ↦ with_today Max x ∷ with_today Min x ∷ []
    ]

abbrev pub all_rules_for : List (RuleOf FormerKind) → List Rule
all_rules_for [] = []
all_rules_for (x ∷ xs) = rules_for x ++ all_rules_for xs

abbrev pub converted_contents : FormerContents → Contents
converted_contents c = with_rules c (all_rules_for c.rules)

-- t is the sheet with other bytes in the places of the count and of the `fix` rows only. The sheet has these lines:
-- some above the rules, their heading, as many rows as there are rules, and some behind them; and only rows are `fix`
-- rows. In t the lines above, the rows that are no `fix` rows and the lines behind are the same bytes in the same order
pub record SameBytes (sheet : List ℕ) (Γ : Network) (t : List ℕ) : Type 0 where
  pub above : List (List ℕ)
  pub rows : List (List ℕ)
  pub behind : List (List ℕ)
  pub counted : length rows ≡ Γ.rules
  pub alone : fixes_in rows ≡ fixes sheet
  pub was : lines_of sheet ≡ above ++ heading Γ.rules ∷ (rows ++ behind)
  pub is : t ≡ lines above ++ heading (resulting sheet Γ) ++ lines (map doubled rows) ++ lines behind
