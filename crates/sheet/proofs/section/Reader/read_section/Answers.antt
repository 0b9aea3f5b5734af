-- The section's line, and then as many lines as it says. Assumes nothing.
use mathlib.Core.Path.{sym, ◌∙◌}
use native.Mathlib.Omega.{arith}
use Prim.Native.Nat.{◌+◌, ◌≤◌}
use lib.ListN.{length}
use Rattle.sheet.proofs.Left.{left_behind, left_holds}
use Rattle.sheet.proofs.ReadLine.{on_line-ok}
use Rattle.sheet.proofs.Sections.{SectionGoes, section_goes}
use Rattle.sheet.proofs.section.Reader.read_section.Goals.{In_ok-line}
use Rattle.sheet.proofs.section.Reader.read_section.Goals as goal

-- the section's line passes
goes : (d : In_ok-line) → let sheet = d.args.self.now.sheet.now in
    let here = d.args.reached in
    SectionGoes sheet d.args.section here.at here.line d.args.left.now d.requires.0 here.network
    d.in_ok-line.line.count d.in_ok-line.line.length
goes d =
    let here = d.args.reached in
    section_goes d.args.self.now.sheet.now d.args.section here.at here.line d.args.left.now d.requires.0 here.network
    d.in_ok-line.line
    (sym d.heading_of-read.ensures ∙ on_line-ok here.line d.heading_of-read.result d.in_ok-line.line
    d.in_ok-line.ensures)

-- and ends within what is left, which is short
inside : (d : In_ok-line) → (d.in_ok-line.line.length + 1 ≤ length d.args.left.now)
    × (d.args.reached.at + (d.in_ok-line.line.length + 1) ≤ 4096)
inside d = (
  left_holds d.args.self.now.sheet.now d.args.reached.at d.args.left.now d.requires.0
      (d.in_ok-line.line.length + 1) (goes d).inside,
  omega (arith, (goes d).inside, d.args.self.now.short),
)

pub overflow_add-taken : goal.overflow_add-taken
overflow_add-taken c =
    let d = (goal.at.overflow_add-taken c).In_ok-line in
    omega (arith, inside d)

pub overflow_add-reached : goal.overflow_add-reached
overflow_add-reached c =
    let d = (goal.at.overflow_add-reached c).In_ok-line in
    omega (arith, inside d)

pub overflow_add-reached-2 : goal.overflow_add-reached-2
overflow_add-reached-2 c =
    let d = (goal.at.overflow_add-reached-2 c).In_ok-line in
    omega (arith, (goes d).inside, c.args.self.now.short)

pub slice_bounds-read_entries-count : goal.slice_bounds-read_entries-count
slice_bounds-read_entries-count c = (inside (goal.at.slice_bounds-read_entries-count c).In_ok-line).0

pub slice_bounds-read_entries-start : goal.slice_bounds-read_entries-start
slice_bounds-read_entries-start c = omega (arith, inside (goal.at.slice_bounds-read_entries-start c).In_ok-line)

pub read_entries-requires : goal.read_entries-requires
read_entries-requires c =
    let d = (goal.at.read_entries-requires c).In_ok-line in (
      left_behind c.args.self.now.sheet.now c.args.reached.at c.args.left.now c.requires.0
          (c.in_ok-line.line.length + 1),
      rw c.from.ensures ((goes d).stage c.requires.1),
    )
