-- The sections behind the horizon, by the code's `Section`: the line that each begins with, the tests of its lines,
-- and what a line of it adds to the network (01, The sheet; 02, points 3 and 6).
use Rattle.std.proofs.Math.Option
use Rattle.std.specs.Prelude.{List, ◌++◌, ℕ, zero, suc, ℤ, length, get_or}
use Prim.Native.String.{String}
use Rattle.prelude.specs.Bytes.{ascii}
use Rattle.text.specs.Lines.{field}
use Rattle.text.specs.Number.{value_of}
use Rattle.network.specs.Limits as L
use Rattle.network.specs.Build.{with_event, with_signal, with_rule, with_reaction, with_label}
use Rattle.network.specs.declared.Kind.{Kind}
use Rattle.network.specs.declared.Kind.TheVariants.{Max}
use Rattle.network.specs.declared.Constraint.{Constraint}
use Rattle.network.specs.declared.Network.{Network}
use Rattle.names.specs.Names.{label_of}
use Rattle.names.specs.Defined.{mask_of}
use Rattle.line.specs.Tests.{Tests, section_tests, event_tests, signal_tests, rule_tests, reaction_tests}
use Rattle.line.specs.Tests.{label_tests, second_number, event_of, kind_of, signal_of}
use Rattle.line.specs.Labelling.{whole_tests}
use Rattle.line.specs.declared.Section.{Section}
use Rattle.line.specs.declared.Section.TheVariants.{Events, Signals, Rules, Reactions, Cases}
use Rattle.line.specs.declared.entry.Entry.{Entry}
use Rattle.line.specs.declared.entry.Entry.TheVariants as E

-- the line that a section begins with: its word, and the range of its count (of the reactions "r from 0 to 4", of the
-- cases "c from 0 to n", the number of the sheet's events)
pub record Heading : Type 0 where
  pub word : String
  pub least : ℕ
  pub most : ℕ

abbrev pub heading_of_lem : ℕ → Section → Heading
heading_of_lem n Events = record { word = "events"; least = 1; most = L.events }
heading_of_lem n Signals = record { word = "signals"; least = 0; most = L.signals }
heading_of_lem n Rules = record { word = "rules"; least = 0; most = L.rules }
heading_of_lem n Reactions = record { word = "reactions"; least = 0; most = L.signals }
heading_of_lem n Cases = record { word = "cases"; least = 0; most = n }

-- the first line of the sheet is written like one
abbrev pub horizon_heading : Heading
horizon_heading = record { word = "horizon"; least = 0; most = L.horizon }

abbrev pub heading_tests : Heading → List (List ℕ) → Tests
heading_tests h = section_tests (ascii h.word) h.least h.most

-- what an entry adds, where its line begins at the given place and its first field has n bytes
abbrev pub added : Entry → Network → ℕ → ℕ → Network
added E.Event Γ at n = with_event Γ at n
added (E.Signal b u) Γ at n = with_signal Γ b u
added (E.Rule c) Γ at n = with_rule Γ c
added (E.Reaction p m) Γ at n = with_reaction Γ p m
added (E.Label u ℓ) Γ at n = with_label Γ u ℓ

module _ (sheet : List ℕ) where
  -- a rule by its parts, and by its fields
  abbrev pub constraint_of : Network → Kind → List ℕ → List ℕ → ℤ → List ℕ → Constraint
  constraint_of Γ kind from to bound label = record {
    kind = kind;
    from = Option.get_or (event_of sheet Γ from) 0;
    to = Option.get_or (event_of sheet Γ to) 0;
    bound = bound;
    label = mask_of Γ.signals Γ.letters (label_of label);
  }

  abbrev pub rule_of : Network → List (List ℕ) → Constraint
  rule_of Γ fs =
      constraint_of Γ (Option.get_or (kind_of (field 0 fs)) Max) (field 1 fs) (field 2 fs) (value_of (field 3 fs))
      (field 4 fs)

  -- an event by its name, with its label
  abbrev pub label_as : Network → List ℕ → List ℕ → Entry
  label_as Γ name label =
      E.Label (Option.get_or (event_of sheet Γ name) 0) (mask_of Γ.signals Γ.letters (label_of label))

  -- the tests of a section's line by itself
  abbrev pub own_tests : Section → Network → List (List ℕ) → Tests
  own_tests Events = event_tests sheet
  own_tests Signals = signal_tests sheet
  own_tests Rules = rule_tests sheet
  own_tests Reactions = reaction_tests
  own_tests Cases = label_tests sheet

  -- what a line with these fields holds
  abbrev pub entry_of : Section → Network → List (List ℕ) → Entry
  entry_of Events Γ fs = E.Event
  entry_of Signals Γ fs = E.Signal (get_or (field 0 fs) 0 0) (Option.get_or (event_of sheet Γ (field 1 fs)) 0)
  entry_of Rules Γ fs = E.Rule (rule_of Γ fs)
  entry_of Reactions Γ fs = E.Reaction (Option.get_or (signal_of Γ (field 0 fs)) 0) (second_number fs)
  entry_of Cases Γ fs = label_as Γ (field 0 fs) (field 1 fs)

  -- the network with a line of these fields, which begins at the given place
  abbrev pub with_line : Section → Network → ℕ → List (List ℕ) → Network
  with_line s Γ at fs = added (entry_of s Γ fs) Γ at (length (field 0 fs))

  -- a line of the section `cases`, with so many more behind it: 20 and 21 are "judged on and given with the section's
  -- last line", and come "after 9"; where that line begins says nothing of its label
  abbrev pub case_tests : ℕ → Network → List (List ℕ) → Tests
  case_tests zero Γ fs = label_tests sheet Γ fs ++ whole_tests (with_line Cases Γ 0 fs)
  case_tests (suc m) Γ fs = label_tests sheet Γ fs

  -- the tests of a section's line, with so many more of the section behind it
  abbrev pub tests_of : Section → ℕ → Network → List (List ℕ) → Tests
  tests_of Events m = own_tests Events
  tests_of Signals m = own_tests Signals
  tests_of Rules m = own_tests Rules
  tests_of Reactions m = own_tests Reactions
  tests_of Cases m = case_tests m
