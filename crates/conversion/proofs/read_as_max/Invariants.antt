-- What is written, and what the lines that are left are read as, is the whole text. Assumes nothing.
use mathlib.Core.List.{map}
use Rattle.conversion.specs.FormerRules.{as_max, read_as_max_lem}
use Rattle.conversion.proofs.Writing.{Writing}
use Rattle.conversion.proofs.read_as_max.Given as goal

abbrev pub invariant-loop-line : goal.invariant-loop-line
invariant-loop-line l = Writing (read_as_max_lem l.sheet) l.page (map as_max l.line-iterator)
