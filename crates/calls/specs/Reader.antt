-- What the answer of the call that reads a sheet means: "a sheet is accepted when it keeps every rule of its layout,
-- otherwise refused", with its first line at fault; and the counts are those of what it contains.
use Rattle.std.specs.Prelude.{◌≡◌, ◌↔◌, List, ℕ, length, Ok, Err, IsOk}
use Rattle.refusal.specs.declared.Refusal.{Refusal}
use Rattle.sheet.specs.Fault.{Fault}
use Rattle.layout.specs.Contents.{Contents}
use Rattle.layout.specs.Layout.{Layout}
use Rattle.calls.specs.Values.{OrRefusal}
use Rattle.calls.specs.declared.Counts.{Counts}

abbrev pub counts_in : Contents → Counts
counts_in c =
    record { horizon = c.horizon; events = length c.names; signals = length c.signals; rules = length c.rules }

module _ (sheet : List ℕ) (r : OrRefusal Counts) where
  abbrev pub AcceptsLayout : Type 0
  AcceptsLayout = IsOk r ↔ Layout sheet

  abbrev pub RefusesFault : Type 0
  RefusesFault = (x : Refusal) → (r ≡ Err x) ↔ Fault sheet x

  abbrev pub CountsContents : Type 0
  CountsContents = (l : Layout sheet) → r ≡ Ok (counts_in l.contents)
