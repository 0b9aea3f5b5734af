-- What holds of the network at every line of the sheet, so that the lines that follow need not ask again.
use Rattle.std.specs.Prelude.{List, ℕ, zero, suc, ◌≤◌, length}
use Rattle.network.specs.Limits as L
use Rattle.network.specs.WellFormed.{Labelling, Before, Within, Behind, ToCome, Forming, Named}
use Rattle.network.specs.declared.Network.{Network}
use Rattle.line.specs.declared.Section.{Section}
use Rattle.line.specs.declared.Section.TheVariants.{Events, Signals, Rules, Reactions, Cases}

-- how far the labels are read where m lines of theirs are to come: with the last of them they are
abbrev pub labelling : ℕ → Labelling
labelling zero = Behind
labelling (suc m) = Within

-- m lines of this section, and all that stand behind it; a reaction needs no room of its own, nor does a label
abbrev pub to_come : Section → ℕ → ToCome
to_come Events m = record { events = m; signals = L.signals; rules = L.rules; labels = Before }
to_come Signals m = record { events = 0; signals = m; rules = L.rules; labels = Before }
to_come Rules m = record { events = 0; signals = 0; rules = m; labels = Before }
to_come Reactions m = record { events = 0; signals = 0; rules = 0; labels = Before }
to_come Cases m = record { events = 0; signals = 0; rules = 0; labels = labelling m }

-- the whole section; before the cases no event has a label
abbrev pub whole : Section → ToCome
whole Events = to_come Events L.events
whole Signals = to_come Signals L.signals
whole Rules = to_come Rules L.rules
whole Reactions = to_come Reactions 0
whole Cases = to_come Reactions 0

-- the sections that a sheet may end before
abbrev pub MayBeAbsent : Section → Type 0
MayBeAbsent Events = ⊥
MayBeAbsent Signals = ⊥
MayBeAbsent Rules = ⊥
MayBeAbsent Reactions = Unit {0}
MayBeAbsent Cases = Unit {0}

-- the next line is line k and begins at this place of the sheet
pub record Stage (sheet : List ℕ) (t : ToCome) (Γ : Network) (at k : ℕ) : Type 0 where
  pub forming : Forming t Γ
  pub named : Named sheet Γ
  pub inside : at ≤ length sheet
  -- each line before this one has its line feed
  pub line : k ≤ suc at
