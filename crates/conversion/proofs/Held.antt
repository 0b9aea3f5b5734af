-- Contents with other rules, maybe of other kinds, keep what contents keep where these rules do (`with_rules-keep`). So
-- the contents of a former sheet keep it exactly where those do in which a `max` stands for each `fix`, since nothing
-- that is kept speaks of the kinds (`held_keeps`, `keeps_of_held`). Assumes nothing.
use mathlib.Core.Path.{subst}
use mathlib.Core.List.{List, map}
use Prim.Native.Nat.{◌≤◌}
use native.Mathlib.Omega.{arith}
use lib.ListN.{length, length-map}
use Rattle.prelude.specs.Lists.{Each}
use Rattle.prelude.proofs.Lists.{each_mono}
use Rattle.prelude.proofs.Mapped.{get_d_map, each_map}
use Rattle.network.specs.Limits as L
use Rattle.network.specs.declared.Kind.TheVariants.{Max}
use Rattle.layout.specs.Contents.{RuleOf, Rule, ContentsOf, no_rule, no_rule_of, signal_letters}
use Rattle.layout.specs.Labelled.{Complete}
use Rattle.layout.specs.Keeps.{KeepsRule, KeepsOf, Keeps}
use Rattle.conversion.specs.FormerSheet.{FormerKind, Fix, FormerContents, with_rules, held_rule, held}

pub with_rules-keep : {K J : Type 0} {k : K} (j : J) (c : ContentsOf K) (xs : List (RuleOf J)) → KeepsOf k c
    → length xs ≤ L.rules → Each (KeepsRule c.names (signal_letters c.signals)) xs (no_rule_of j)
    → Each (λ x. Complete c x.label) xs (no_rule_of j) → KeepsOf j (with_rules c xs)
with_rules-keep j c xs k few kept complete = record {
  horizon = k.horizon;
  some_event = k.some_event;
  events = k.events;
  names = k.names;
  names_once = k.names_once;
  few_signals = k.few_signals;
  signals = k.signals;
  letters_once = k.letters_once;
  events_once = k.events_once;
  few_rules = few;
  rules = kept;
  few_reactions = k.few_reactions;
  reactions = k.reactions;
  reactions_once = k.reactions_once;
  cases_follow = k.cases_follow;
  few_cases = k.few_cases;
  cases = k.cases;
  cases_once = k.cases_once;
  labelled = record {
    start = k.labelled.start;
    events = each_mono (λ x w. record { has = w.has }) k.labelled.events;
    rules = each_mono (λ x w. record { has = w.has }) complete;
  };
}

-- of rules and those that stand for them, each keeps the same
to_held : (P : Rule → Type 0) (xs : List (RuleOf FormerKind)) → Each (λ x. P (held_rule x)) xs (no_rule_of Fix)
    → Each P (map held_rule xs) no_rule
to_held P xs e = each_map held_rule P (no_rule_of Fix) no_rule xs e

of_held : (P : Rule → Type 0) (xs : List (RuleOf FormerKind)) → Each P (map held_rule xs) no_rule
    → Each (λ x. P (held_rule x)) xs (no_rule_of Fix)
of_held P xs e = record {
  each = λ i h.
      subst P (get_d_map held_rule (no_rule_of Fix) no_rule xs i h) (e.each i (omega (arith, length-map xs held_rule)));
}

module _ (c : FormerContents) where
  pub held_keeps : KeepsOf Fix c → Keeps (held c)
  held_keeps k =
      with_rules-keep Max c (map held_rule c.rules) k (omega (arith, k.few_rules, length-map c.rules held_rule))
      (to_held (KeepsRule c.names (signal_letters c.signals)) c.rules
      (each_mono (λ x w. record { from = w.from; to = w.to; limit = w.limit; label = w.label }) k.rules))
      (to_held (λ x. Complete c x.label) c.rules k.labelled.rules)

  pub keeps_of_held : Keeps (held c) → KeepsOf Fix c
  keeps_of_held k =
      with_rules-keep Fix (held c) c.rules k (omega (arith, k.few_rules, length-map c.rules held_rule))
      (each_mono (λ x w. record { from = w.from; to = w.to; limit = w.limit; label = w.label })
      (of_held (KeepsRule c.names (signal_letters c.signals)) c.rules k.rules))
      (of_held (λ x. Complete (held c) x.label) c.rules k.labelled.rules)
