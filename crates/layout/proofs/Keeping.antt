-- Contents that stand in a network keep the layout's rules. Assumes nothing.
use mathlib.Core.Path.{◌≡◌}
use mathlib.Core.Option.{none}
use mathlib.Core.List.{List}
use Prim.Native.Nat.{ℕ, ◌≤◌}
use lib.ListN.{length}
use Rattle.network.specs.Limits as L
use Rattle.network.specs.declared.Network.{Network}
use Rattle.layout.specs.Contents.{Contents, listed_reactions, listed_cases}
use Rattle.layout.specs.Labelled.{Labelled}
use Rattle.layout.specs.Keeps.{Keeps}
use Rattle.layout.proofs.Stands.{Stands}

-- where there are not too few or too many of anything, cases stand behind reactions, and no label lacks anything
pub keeps : {sheet : List ℕ} {Γ : Network} {c : Contents} → Stands sheet Γ c → c.horizon ≤ L.horizon
    → 1 ≤ length c.names → length c.names ≤ L.events → length c.signals ≤ L.signals
    → length c.rules ≤ L.rules → length (listed_reactions c) ≤ L.signals → (c.reactions ≡ none → c.cases ≡ none)
    → length (listed_cases c) ≤ length c.names → Labelled c → Keeps c
keeps held h least n k m r follow few labelled = record {
  horizon = h;
  some_event = least;
  events = n;
  names = held.names.each;
  names_once = held.names.once;
  few_signals = k;
  signals = held.signals.each;
  letters_once = held.signals.letters_once;
  events_once = held.signals.events_once;
  few_rules = m;
  rules = held.rules;
  few_reactions = r;
  reactions = held.reactions.each;
  reactions_once = held.reactions.once;
  cases_follow = follow;
  few_cases = few;
  cases = held.cases.each;
  cases_once = held.cases.once;
  labelled = labelled;
}
