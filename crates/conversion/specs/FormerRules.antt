-- How the converter reads a former sheet: `fix` and `max` have the same length, so it is given to today's reader once
-- the kind of each `fix` row is read as `max`. That this is the reading of a former sheet by its own rules is proved.
use Rattle.std.specs.Prelude.{cond, List, map, ℕ, ◌+◌}
use Rattle.network.specs.declared.Kind.TheVariants.{Max}
use Rattle.network.specs.declared.Network.{Network}
use Rattle.layout.specs.Layout.{lines}
use Rattle.conversion.specs.Rows.{lines_of, is_fix_lem, with_kind}

-- a line with the kind of a `fix` row read as `max`
abbrev pub as_max : List ℕ → List ℕ
as_max l = cond (is_fix_lem l) (with_kind Max l) l

-- the sheet that today's reader is given
unfoldable pub read_as_max_lem : List ℕ → List ℕ
read_as_max_lem sheet = lines (map as_max (lines_of sheet))

-- the line of the heading of the rules, counted from 0: behind the horizon, and behind the headings and the lines of
-- events and signals
abbrev pub heading_line : Network → ℕ
heading_line Γ = 3 + Γ.events + Γ.signals
