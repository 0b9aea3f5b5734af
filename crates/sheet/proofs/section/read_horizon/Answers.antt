-- The first line, from the front of the sheet. Assumes nothing.
use mathlib.Core.Path.{sym, ◌∙◌}
use Prim.Native.Nat.{◌+◌}
use native.Mathlib.Omega.{arith}
use Rattle.sheet.proofs.ReadLine.{on_line-ok}
use Rattle.sheet.proofs.Sections.{HorizonGoes, horizon_goes}
use Rattle.sheet.proofs.FirstStage.{stage_empty}
use Rattle.sheet.proofs.section.read_horizon.Goals.{In_ok-line}
use Rattle.sheet.proofs.section.read_horizon.Goals as goal

-- the line passes
goes : (d : In_ok-line) → HorizonGoes d.args.sheet.now d.in_ok-line.line.count d.in_ok-line.line.length
goes d =
    horizon_goes d.args.sheet.now d.in_ok-line.line
    (sym d.section_line.ensures ∙ on_line-ok 1 d.section_line.result d.in_ok-line.line d.in_ok-line.ensures)

pub overflow_add-result : goal.overflow_add-result
overflow_add-result c =
    let d = (goal.at.overflow_add-result c).In_ok-line in
    omega (arith, (goes d).inside)

pub returns-clause-stage : goal.returns-clause-stage
returns-clause-stage c =
    let d = (goal.at.returns-clause-stage c).In_ok-line in
    let line = c.in_ok-line.line in
    rw c.empty.ensures
    (stage_empty c.args.sheet.now line.count (line.length + 1) 2 (goes d).most (goes d).inside (omega arith))
