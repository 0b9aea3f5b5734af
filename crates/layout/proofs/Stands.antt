-- What stands while a sheet is read: the network holds the contents so far, its arrays are as long as the limits say,
-- so that there is room, and the contents keep the layout's rules, on which the lines behind rely. Assumes nothing.
use mathlib.Core.Path.{◌≡◌, refl}
use mathlib.Core.Logic.{inl, inr}
use mathlib.Core.Bool.{true, false}
use mathlib.Core.Option.{none}
use mathlib.Core.List.{List, [], ◌∷◌, ◌++◌}
use Prim.Native.Nat.{ℕ, ◌<◌}
use native.Mathlib.Omega.{arith}
use lib.ListN.{length, get_or, take, drop, replicate, get_or-replicate, get_or-eq_default}
use Rattle.prelude.specs.Lists.{In}
use Rattle.prelude.proofs.Tests.{clash, lt_or_ge}
use Rattle.network.specs.Limits as L
use Rattle.network.specs.Build.{empty, with_event, with_signal, with_rule, is_labelled}
use Rattle.network.specs.WellFormed.{Arrays}
use Rattle.network.specs.declared.Network.{Network}
use Rattle.network.specs.declared.Constraint.{Constraint}
use Rattle.network.proofs.Strategy.{stated_empty}
use Rattle.sheet.proofs.Arrays.{arrays-empty, arrays-event, arrays-signal, arrays-rule}
use Rattle.layout.specs.Contents.{Signal, Rule, Contents, signal_letters, case_events}
use Rattle.layout.specs.Contents.{listed_reactions, listed_cases}
use Rattle.layout.specs.Keeps.{KeepsRule}
use Rattle.layout.specs.Contains.{Bears, Means, Contains}
use Rattle.layout.proofs.Kept.{KeptNames, NewName, no_names, name-kept}
use Rattle.layout.proofs.Kept.{KeptSignals, NewSignal, no_signals, signal-kept}
use Rattle.layout.proofs.Kept.{KeptRules, no_rules, rule-kept}
use Rattle.layout.proofs.Kept.{KeptReactions, no_reactions, KeptCases, no_cases}
use Rattle.layout.proofs.Extends.{contents, Quiet, empty-contains, event-contains}
use Rattle.layout.proofs.Extends.{signal-contains, rule-contains}

pub record Stands (sheet : List ℕ) (Γ : Network) (c : Contents) : Type 0 where
  pub holds : Contains sheet Γ c
  pub arrays : Arrays Γ
  pub names : KeptNames c.names
  pub signals : KeptSignals c.names c.signals
  pub rules : KeptRules c.names c.signals c.rules
  pub reactions : KeptReactions c.signals (listed_reactions c)
  pub quiet : c.reactions ≡ none → Quiet Γ
  pub cases : KeptCases c.names c.signals (listed_cases c)
  -- the events that have a line in the section of cases are marked, and no others
  pub listed : (u : ℕ) → is_labelled Γ u ≡ true → In (get_or c.names u []) (case_events (listed_cases c)) []
  pub marks : (u : ℕ) → In (get_or c.names u []) (case_events (listed_cases c)) [] → is_labelled Γ u ≡ true

unmarked : (h u : ℕ) → is_labelled (empty h) u ≡ false
unmarked h u =
    elim (lt_or_ge u L.events) [
      | inl l ↦ get_or-replicate L.events u false false l
      | inr l ↦ get_or-eq_default (replicate L.events false) false {n = u} l
    ]

pub empty_stands : (sheet : List ℕ) (h : ℕ) → Stands sheet (empty h) (contents h [] [] [])
empty_stands sheet h = record {
  holds = empty-contains sheet h;
  arrays = arrays-empty h;
  names = no_names;
  signals = no_signals [];
  rules = no_rules [] [];
  reactions = no_reactions [];
  quiet = λ e. stated_empty h;
  cases = no_cases [] [];
  listed = λ u e. clash (is_labelled (empty h) u) e (unmarked h u);
  marks = λ u i. absurd (omega (arith, i.place_lt));
}

module _ {sheet : List ℕ} {Γ : Network} {h : ℕ} {ns : List (List ℕ)} where
  pub event-added : Stands sheet Γ (contents h ns [] []) → (n : List ℕ) (at : ℕ) → NewName ns n → length ns < L.events
      → take (length n) (drop at sheet) ≡ n → Stands sheet (with_event Γ at (length n))
      (contents h (ns ++ n ∷ []) [] [])
  event-added c n at m few part = record {
    holds = event-contains c.arrays c.holds n at few part;
    arrays = arrays-event c.arrays at (length n);
    names = name-kept ns n c.names m;
    signals = no_signals (ns ++ n ∷ []);
    rules = no_rules (ns ++ n ∷ []) [];
    reactions = no_reactions [];
    quiet = c.quiet;
    cases = no_cases (ns ++ n ∷ []) [];
    listed = λ u e. absurd (omega (arith, (c.listed u e).place_lt));
    marks = λ u i. absurd (omega (arith, i.place_lt));
  }

  pub signal-added : {xs : List Signal} → Stands sheet Γ (contents h ns xs []) → (x : Signal) (u : ℕ)
      → NewSignal ns xs x → length xs < L.signals → Bears ns u x.event
      → Stands sheet (with_signal Γ x.letter u) (contents h ns (xs ++ x ∷ []) [])
  signal-added {xs} c x u m few bears = record {
    holds = signal-contains c.arrays c.holds x u few bears (c.quiet refl);
    arrays = arrays-signal c.arrays x.letter u;
    names = c.names;
    signals = signal-kept ns xs x c.signals m;
    rules = no_rules ns (xs ++ x ∷ []);
    reactions = no_reactions (xs ++ x ∷ []);
    quiet = c.quiet;
    cases = no_cases ns (xs ++ x ∷ []);
    listed = c.listed;
    marks = c.marks;
  }

  pub rule-added : {xs : List Signal} {rs : List Rule} → Stands sheet Γ (contents h ns xs rs)
      → (x : Rule) (k : Constraint) → KeepsRule ns (signal_letters xs) x → length rs < L.rules → Means ns xs k x
      → Stands sheet (with_rule Γ k) (contents h ns xs (rs ++ x ∷ []))
  rule-added {xs} {rs} c x k m few means = record {
    holds = rule-contains c.arrays c.holds x k few means;
    arrays = arrays-rule c.arrays k;
    names = c.names;
    signals = c.signals;
    rules = rule-kept ns xs rs x c.rules m;
    reactions = no_reactions xs;
    quiet = c.quiet;
    cases = c.cases;
    listed = c.listed;
    marks = c.marks;
  }
