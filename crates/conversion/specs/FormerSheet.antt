-- A former sheet, one written when `fix` was still a kind of rules: what it contains and how it is written. Both are
-- told by the same definitions as a sheet of today, for one kind more.
use Rattle.std.specs.Prelude.{◌≡◌, List, map, ℕ, ◌<◌, length, get_or}
use Rattle.prelude.specs.Bytes.{ascii}
use Rattle.network.specs.declared.Kind.{Kind}
use Rattle.network.specs.declared.Kind.TheVariants.{Max}
use Rattle.network.specs.declared.Network.{Network}
use Rattle.layout.specs.Contents.{RuleOf, Rule, ContentsOf, Contents, no_rule_of}
use Rattle.layout.specs.Contains.{Contains}
use Rattle.layout.specs.Layout.{kind_text, LayoutOf}

-- the kinds of a former sheet's rules: today's, and `fix`
pub data FormerKind : Type 0 where
  Today : Kind → FormerKind
  Fix : FormerKind

abbrev pub former_kind_text : FormerKind → List ℕ
former_kind_text (Today k) = kind_text k
former_kind_text Fix = ascii "fix"

abbrev pub FormerContents : Type 0
FormerContents = ContentsOf FormerKind

-- the sheet is the text of such contents, which keep what the contents of every sheet keep, and nothing else
abbrev pub FormerLayout : List ℕ → Type 0
FormerLayout sheet = LayoutOf former_kind_text Fix sheet

-- the kind of rule i
abbrev pub kind_at : FormerContents → ℕ → FormerKind
kind_at c i = (get_or c.rules i (no_rule_of Fix)).kind

-- a network has today's kinds alone: there a `max` stands in the place of each `fix`, and all else as it is written
abbrev pub held_kind : FormerKind → Kind
held_kind (Today k) = k
held_kind Fix = Max

abbrev pub with_today : Kind → RuleOf FormerKind → Rule
with_today k x = record { kind = k; from = x.from; to = x.to; limit = x.limit; label = x.label }

abbrev pub held_rule : RuleOf FormerKind → Rule
held_rule x = with_today (held_kind x.kind) x

-- contents with other rules, maybe of other kinds
abbrev pub with_rules : {K J : Type 0} → ContentsOf K → List (RuleOf J) → ContentsOf J
with_rules c xs = record {
  horizon = c.horizon;
  names = c.names;
  signals = c.signals;
  rules = xs;
  reactions = c.reactions;
  cases = c.cases;
}

abbrev pub held : FormerContents → Contents
held c = with_rules c (map held_rule c.rules)

-- the network holds the contents of the former sheet so: its horizon, events, signals, reactions and labels, and each
-- rule by its ends, limit and label
abbrev pub FormerContains : List ℕ → Network → FormerContents → Type 0
FormerContains sheet Γ c = Contains sheet Γ (held c)

-- rule i is the first of the kind `fix`
pub record FirstFix (c : FormerContents) (i : ℕ) : Type 0 where
  pub inside : i < length c.rules
  pub fix : kind_at c i ≡ Fix
  pub none_above : (j : ℕ) → j < i → kind_at c j ≡ Fix → ⊥
