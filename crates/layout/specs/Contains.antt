-- What it means that a network holds the contents of a sheet: its horizon, each event by its name, each signal by its
-- letter, event and reaction, each rule by its kind, ends, limit and label, each event's label (01, The sheet; 02,
-- points 3 and 6).
use Rattle.std.specs.Prelude.{◌≡◌, List, [], ℕ, ◌<◌, length, get_or}
use Rattle.network.specs.Build.{no_label, name_of_lem, letter, observation, reaction_stated, event_label, constraint}
use Rattle.network.specs.declared.Constraint.{Constraint}
use Rattle.network.specs.declared.Network.{Network}
use Rattle.names.specs.Defined.{mask_of}
use Rattle.prelude.specs.Lists.{In}
use Rattle.layout.specs.Contents.{Signal, Rule, Contents, no_signal, no_rule, no_reaction, no_case}
use Rattle.layout.specs.Contents.{signal_letters, reaction_letters, case_events, listed_reactions, listed_cases}

-- event u is the one of that name
pub record Bears (names : List (List ℕ)) (u : ℕ) (f : List ℕ) : Type 0 where
  pub defined : u < length names
  pub name : get_or names u [] ≡ f

-- the constraint says what the rule says
pub record Means (names : List (List ℕ)) (xs : List Signal) (c : Constraint) (x : Rule) : Type 0 where
  pub kind : c.kind ≡ x.kind
  pub from : Bears names c.from x.from
  pub to : Bears names c.to x.to
  pub bound : c.bound ≡ x.limit
  pub label : c.label ≡ mask_of (length xs) (signal_letters xs) x.label

-- the network holds these contents of the sheet
pub record Contains (sheet : List ℕ) (Γ : Network) (c : Contents) : Type 0 where
  pub horizon : Γ.horizon ≡ c.horizon
  pub events : Γ.events ≡ length c.names
  pub named : (u : ℕ) → u < length c.names → name_of_lem Γ sheet u ≡ get_or c.names u []
  pub signals : Γ.signals ≡ length c.signals
  pub lettered : (p : ℕ) → p < length c.signals → letter Γ p ≡ (get_or c.signals p no_signal).letter
  pub observed : (p : ℕ) → p < length c.signals
      → Bears c.names (observation Γ p) (get_or c.signals p no_signal).event
  pub rules : Γ.rules ≡ length c.rules
  pub means : (i : ℕ) → i < length c.rules
      → Means c.names c.signals (constraint Γ i) (get_or c.rules i no_rule)
  -- a signal whose letter has a line reacts as that says, and of the others nothing is said
  pub reacts : (p i : ℕ) → p < length c.signals → i < length (listed_reactions c)
      → letter Γ p ≡ (get_or (listed_reactions c) i no_reaction).letter
      → reaction_stated Γ p ≡ (get_or (listed_reactions c) i no_reaction).minutes
  pub unsaid : (p : ℕ) → p < length c.signals
      → (In (letter Γ p) (reaction_letters (listed_reactions c)) 0 → ⊥) → reaction_stated Γ p ≡ 0
  -- an event whose name has a line happens where that says, and every other everywhere; behind the last event names are
  -- read as `[]`, which is no event's
  pub labelled : (u i : ℕ) → i < length (listed_cases c)
      → get_or c.names u [] ≡ (get_or (listed_cases c) i no_case).event
      → event_label Γ u
      ≡ mask_of (length c.signals) (signal_letters c.signals) (get_or (listed_cases c) i no_case).label
  pub unlabelled : (u : ℕ) → (In (get_or c.names u []) (case_events (listed_cases c)) [] → ⊥)
      → event_label Γ u ≡ no_label
