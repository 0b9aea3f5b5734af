-- What is written, and what the lines that are left become, is the whole text. Assumes nothing.
use mathlib.Core.List.{◌++◌, map}
use Rattle.layout.specs.Layout.{lines}
use Rattle.conversion.specs.Converted.{doubled}
use Rattle.conversion.proofs.Writing.{Writing}
use Rattle.conversion.proofs.push_rest.Given as goal

abbrev pub invariant-loop-line : goal.invariant-loop-line
invariant-loop-line l =
    Writing (l.fn.page ++ lines (map doubled l.fn.left)) l.page (map doubled l.line-iterator)
