-- What a verdict displays, and a line feed, is the line of the verdict. Assumes nothing.
use Rattle.std.proofs.Common.{subst, sym, rules}
use Rattle.files.specs.Whole.{Prints}
use Rattle.calls.proofs.Words.{displayed-line}
use Rattle.report.proofs.print_verdict.Goals as goal

pub returns-in-Ok : goal.returns-in-Ok
returns-in-Ok g c =
    rw c.in-Ok.is (subst (Prints _ _ _) (sym (displayed-line c.in-Ok.verdict (search rules))) c.line.ensures)
