-- A sheet in its house form (02, points 2, 3 and 6): its horizon, events and signals as they are, the upper bounds that
-- remain, the reactions other than 1 and the labels of events other than `-`. "Label letters stand in signal order".
-- What the form contains is said as the layout says what any sheet contains, and it is written as any sheet is.
use Rattle.std.specs.Prelude.{Bool, true, false, List, map, ℕ, length}
use Rattle.std.proofs.Math.Option.{Option, some}
use Rattle.prelude.specs.Bounded.{tabulate}
use Rattle.prelude.specs.Search.{when}
use Rattle.prelude.specs.Gather.{gather}
use Rattle.network.specs.Build.{name_of_lem, letter, observation, event_label}
use Rattle.network.specs.Scenario.{truth}
use Rattle.network.specs.declared.Kind.TheVariants.{Max}
use Rattle.network.specs.declared.Label.{Label}
use Rattle.network.specs.declared.Constraint.{Constraint}
use Rattle.network.specs.declared.Network.{Network}
use Rattle.names.specs.Names.{Literal}
use Rattle.layout.specs.Contents.{Signal, Rule, Case, Contents}
use Rattle.layout.specs.Layout.{text_of}
use Rattle.tighten.specs.Tightest.{remaining_of}
use Rattle.canonical.specs.Listed.{slow_of, labelled_of, section_of, before_labels}

-- a letter, with the truth that a label asks of it
abbrev pub literal : ℕ → Bool → Literal
literal b v = record { letter = b; value = v }

-- what a label asks of the letter b, if it does: by whether it asks that it is true, and whether that it is false
abbrev pub literal_by : ℕ → Bool → Bool → Option Literal
literal_by b true negative = some (literal b true)
literal_by b false negative = when negative (literal b false)

module _ (Γ : Network) (ℓ : Label) where
  -- what the label asks of signal p, if it does
  abbrev pub literal_at : ℕ → Option Literal
  literal_at p = literal_by (letter Γ p) (truth ℓ.positive p) (truth ℓ.negative p)

  -- its letters in signal order
  abbrev pub literals_of : List Literal
  literals_of = gather Γ.signals literal_at

module _ (sheet : List ℕ) (Γ : Network) where
  -- the event list
  abbrev pub names_of : List (List ℕ)
  names_of = tabulate Γ.events (name_of_lem Γ sheet)

  -- the signal list
  abbrev pub signal_at : ℕ → Signal
  signal_at p = record { letter = letter Γ p; event = name_of_lem Γ sheet (observation Γ p) }

  abbrev pub signals_of : List Signal
  signals_of = tabulate Γ.signals signal_at

  -- an upper bound that remains
  abbrev pub as_rule : Constraint → Rule
  as_rule r = record {
    kind = Max;
    from = name_of_lem Γ sheet r.from;
    to = name_of_lem Γ sheet r.to;
    limit = r.bound;
    label = literals_of Γ r.label;
  }

  -- an event with its label
  abbrev pub as_case : ℕ → Case
  as_case u = record { event = name_of_lem Γ sheet u; label = literals_of Γ (event_label Γ u) }

  -- what the form contains, where these upper bounds remain
  abbrev pub house_by : List Constraint → Contents
  house_by rs = record {
    horizon = Γ.horizon;
    names = names_of;
    signals = signals_of;
    rules = map as_rule rs;
    reactions = before_labels (length (labelled_of Γ)) (slow_of Γ);
    cases = section_of (map as_case (labelled_of Γ));
  }

  abbrev pub house_of : Contents
  house_of = house_by (remaining_of Γ)

  -- the form's bytes
  unfoldable pub house_text : List ℕ
  house_text = text_of house_of
