-- How a network is built: from its horizon, then event by event, signal by signal, rule by rule, reaction by reaction
-- and label by label, in the order of the sheet (004, Definition 2).
use Rattle.std.specs.Prelude.{Bool, true, false, List, ℕ, ◌+◌, ◌*◌, ◌^◌, pos, get_or, set, replicate, take, drop}
use Rattle.network.specs.Limits as L
use Rattle.network.specs.declared.Kind.TheVariants.{Max}
use Rattle.network.specs.declared.Label.{Label}
use Rattle.network.specs.declared.Constraint.{Constraint}
use Rattle.network.specs.declared.Network.{Network}

-- the label `-`, which asks for nothing
abbrev pub no_label : Label
no_label = record { positive = 0; negative = 0 }

-- what stands where no constraint does
abbrev pub no_constraint : Constraint
no_constraint = record { kind = Max; from = 0; to = 0; bound = pos 0; label = no_label }

abbrev pub empty : ℕ → Network
empty h = record {
  horizon = h;
  events = 0;
  starts = replicate L.events 0;
  lengths = replicate L.events 0;
  signals = 0;
  letters = replicate L.signals 0;
  observations = replicate L.signals 0;
  reactions = replicate L.signals 0;
  rules = 0;
  constraints = replicate L.rules no_constraint;
  labels = replicate L.events no_label;
  labelled = replicate L.events false;
}

module _ (Γ : Network) where
  -- one more event, named by the part of the sheet that begins at start
  abbrev pub with_event : ℕ → ℕ → Network
  with_event start length = record Γ {
    events = Γ.events + 1;
    starts = set Γ.starts Γ.events start;
    lengths = set Γ.lengths Γ.events length;
  }

  -- one more signal: its letter, and the event that gives it
  abbrev pub with_signal : ℕ → ℕ → Network
  with_signal letter observation = record Γ {
    signals = Γ.signals + 1;
    letters = set Γ.letters Γ.signals letter;
    observations = set Γ.observations Γ.signals observation;
  }

  -- one more rule
  abbrev pub with_rule : Constraint → Network
  with_rule c = record Γ { rules = Γ.rules + 1; constraints = set Γ.constraints Γ.rules c }

  -- signal p is trusted after so many minutes
  abbrev pub with_reaction : ℕ → ℕ → Network
  with_reaction p minutes = record Γ { reactions = set Γ.reactions p minutes }

  -- event u happens where this label holds; its line has been read
  abbrev pub with_label : ℕ → Label → Network
  with_label u ℓ = record Γ { labels = set Γ.labels u ℓ; labelled = set Γ.labelled u true }

  -- the name of event u, as a part of the sheet
  abbrev pub name_of_lem : List ℕ → ℕ → List ℕ
  name_of_lem sheet u = take (get_or Γ.lengths u 0) (drop (get_or Γ.starts u 0) sheet)

  -- the letter of signal p
  abbrev pub letter : ℕ → ℕ
  letter p = get_or Γ.letters p 0

  -- the event that gives signal p: its observation event
  abbrev pub observation : ℕ → ℕ
  observation p = get_or Γ.observations p 0

  -- after how many minutes the line of signal p says that it is trusted; 0 where it has no line
  abbrev pub reaction_stated : ℕ → ℕ
  reaction_stated p = get_or Γ.reactions p 0

  -- the label of event u: `-` where it has no line
  abbrev pub event_label : ℕ → Label
  event_label u = get_or Γ.labels u no_label

  -- whether event u has a line in the section `cases`
  abbrev pub is_labelled : ℕ → Bool
  is_labelled u = get_or Γ.labelled u false

  -- the rule at place c of the sheet
  abbrev pub constraint : ℕ → Constraint
  constraint c = get_or Γ.constraints c no_constraint

  -- "There are 2^k cases", and a table has "n × 2^k in all"
  abbrev pub scenarios : ℕ
  scenarios = 2 ^ Γ.signals

  abbrev pub cells : ℕ
  cells = Γ.events * scenarios
