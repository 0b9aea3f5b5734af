-- What the answer of a line's reader is at a place of the sheet. Assumes nothing.
use mathlib.Core.Path.{◌≡◌, ap}
use mathlib.Core.List.{List}
use Prim.Native.Nat.{ℕ}
use lib.ListN.{length, drop}
use Rattle.text.specs.Lines.{fields, line_at}
use Rattle.network.specs.declared.Network.{Network}
use Rattle.line.specs.Tests.{line_tests}
use Rattle.line.specs.Sections.{own_tests, entry_of}
use Rattle.line.specs.Answers.{passing, entry_at}
use Rattle.line.specs.declared.Section.{Section}
use Rattle.line.specs.declared.entry.Line.{Line}

module _ (sheet : List ℕ) (s : Section) (Γ : Network) (at : ℕ) where
  -- what the line there holds
  abbrev pub held_at : Line
  held_at = record {
    entry = entry_of sheet s Γ (fields (line_at sheet at));
    length = length (line_at sheet at);
  }

  -- the part of the sheet that begins there is given
  pub entry_at_lem : (rest : List ℕ) → rest ≡ drop at sheet
      → entry_at rest s sheet Γ ≡ passing (line_tests (drop at sheet) (own_tests sheet s Γ)) held_at
  entry_at_lem rest is = ap (λ (l : List ℕ). entry_at l s sheet Γ) is
