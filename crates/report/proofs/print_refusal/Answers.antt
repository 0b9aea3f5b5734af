-- What a refusal displays, and a line feed, is the line of the refusal. Assumes nothing.
use Rattle.std.proofs.Common.{subst, sym, arith}
use Rattle.files.specs.Whole.{Prints}
use Rattle.calls.proofs.Words.{displayed-refusal}
use Rattle.report.proofs.print_refusal.Goals as goal

pub returns : goal.returns
returns g c = subst (Prints _ _ _) (sym (displayed-refusal c.args.refusal (omega arith))) c.line.ensures
