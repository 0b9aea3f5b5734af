-- The invariant: what is left of the sheet begins at the place that is reached; the lines that are left give what all
-- of them give, and the sheet is at its stage (`EntriesLeft`). Assumes nothing.
use mathlib.Core.Path.{◌≡◌}
use lib.ListN.{drop}
use Prim.Native.Nat.{◌-◌}
use Rattle.sheet.specs.Reading.{read_entries_lem}
use Rattle.sheet.proofs.EntriesLeft.{EntriesLeft}
use Rattle.sheet.proofs.section.Reader.read_entries.Given as goal

abbrev pub invariant-loop-done : goal.invariant-loop-done
invariant-loop-done l =
    let first = l.initial.reached in
    let sheet = l.self.sheet.now in
    let lines = read_entries_lem sheet l.section l.count first.network first.at first.line in
    (l.left ≡ drop l.reached.at sheet)
    × EntriesLeft sheet l.section lines (l.count - l.done) l.reached.network l.reached.at l.reached.line
