-- The rules that the contents of a sheet keep: counts and ranges, names and letters defined once and before they are
-- used (01, The sheet; 02, points 3 and 6).
use Rattle.std.specs.Prelude.{◌≡◌, true, List, [], ℕ, ◌≤◌, length}
use Rattle.std.proofs.Math.Option.{none}
use Rattle.prelude.specs.Lists.{In, Distinct, Each}
use Rattle.network.specs.Limits as L
use Rattle.network.specs.WellFormed.{InLimits}
use Rattle.network.specs.declared.Kind.TheVariants.{Max}
use Rattle.names.specs.Names.{is_letter_lem, is_name_lem, Literal, letters_of}
use Rattle.layout.specs.Contents.{Signal, RuleOf, Reaction, Case, ContentsOf, Contents}
use Rattle.layout.specs.Contents.{no_signal, no_rule_of, no_reaction, no_case}
use Rattle.layout.specs.Contents.{signal_letters, signal_events, reaction_letters, case_events}
use Rattle.layout.specs.Contents.{listed_reactions, listed_cases}
use Rattle.layout.specs.Labelled.{LabelledOf}

pub record KeepsSignal (names : List (List ℕ)) (x : Signal) : Type 0 where
  pub letter : is_letter_lem x.letter ≡ true
  pub event : In x.event names []

-- a label's letters are those of signals, and none stands twice, "with either sign"
pub record KeepsLabel (letters : List ℕ) (ls : List Literal) : Type 0 where
  pub known : Each (λ b. In b letters 0) (letters_of ls) 0
  pub once : Distinct (letters_of ls) 0

pub record KeepsRule {K : Type 0} (names : List (List ℕ)) (letters : List ℕ) (x : RuleOf K) : Type 0 where
  pub from : In x.from names []
  pub to : In x.to names []
  pub limit : InLimits x.limit
  pub label : KeepsLabel letters x.label

-- "minutes from 1 to 60"
pub record KeepsReaction (letters : List ℕ) (y : Reaction) : Type 0 where
  pub signal : In y.letter letters 0
  pub least : L.fastest ≤ y.minutes
  pub most : y.minutes ≤ L.slowest

pub record KeepsCase (names : List (List ℕ)) (letters : List ℕ) (k : Case) : Type 0 where
  pub event : In k.event names []
  pub label : KeepsLabel letters k.label

-- of contents with kinds like k; whichever kind a rule has, the rest of it keeps the same
pub record KeepsOf {K : Type 0} (k : K) (c : ContentsOf K) : Type 0 where
  pub horizon : c.horizon ≤ L.horizon
  pub some_event : 1 ≤ length c.names
  pub events : length c.names ≤ L.events
  pub names : Each (λ n. is_name_lem n ≡ true) c.names []
  pub names_once : Distinct c.names []
  pub few_signals : length c.signals ≤ L.signals
  pub signals : Each (KeepsSignal c.names) c.signals no_signal
  pub letters_once : Distinct (signal_letters c.signals) 0
  pub events_once : Distinct (signal_events c.signals) []
  pub few_rules : length c.rules ≤ L.rules
  pub rules : Each (KeepsRule c.names (signal_letters c.signals)) c.rules (no_rule_of k)
  -- "r from 0 to 4"
  pub few_reactions : length (listed_reactions c) ≤ L.signals
  pub reactions : Each (KeepsReaction (signal_letters c.signals)) (listed_reactions c) no_reaction
  pub reactions_once : Distinct (reaction_letters (listed_reactions c)) 0
  -- the section of cases "may follow `reactions`", and nothing else
  pub cases_follow : c.reactions ≡ none → c.cases ≡ none
  -- "c from 0 to n", the number of events
  pub few_cases : length (listed_cases c) ≤ length c.names
  pub cases : Each (KeepsCase c.names (signal_letters c.signals)) (listed_cases c) no_case
  -- "an event's second line is refused with 7"
  pub cases_once : Distinct (case_events (listed_cases c)) []
  pub labelled : LabelledOf k c

abbrev pub Keeps : Contents → Type 0
Keeps = KeepsOf Max
