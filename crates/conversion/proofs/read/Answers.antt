-- A sheet that is too long is refused as it would be with `fix` read as `max`. Assumes nothing.
use native.Mathlib.Omega.{arith}
use Rattle.conversion.proofs.Length.{read_long, fixes-few}
use Rattle.conversion.proofs.read.Goals as goal

pub returns-then-sheet-gt-LONGEST : goal.returns-then-sheet-gt-LONGEST
returns-then-sheet-gt-LONGEST c = rw c.without_line.ensures (read_long c.args.sheet.now (omega arith))

pub overflow_add-result : goal.overflow_add-result
overflow_add-result c =
    omega (
      arith,
      c.in_ok-formed.field-0.formed.well_formed.rules,
      c.fix_count.ensures,
      fixes-few c.args.sheet.now,
    )
