use mathlib.Core.Path.{sym, ◌∙◌}
use native.Mathlib.Omega.{arith}
use Rattle.std.proofs.lemmas.List.{length-replicate}
use Rattle.text.proofs.Splitting.{splitting_start, splitting_byte, splitting_comma, too_many, count_is, ends_are}
use Rattle.text.proofs.split.Fields.of.Goals as goal
use Rattle.text.proofs.split.Fields.of.Goals.{then-b-eq44+else-count, else-b-eq44}

pub loop-i-init : goal.loop-i-init
loop-i-init g c = splitting_start g.row.N c.args.line.now _ (length-replicate g.row.N 0)

pub returns-then-count : goal.returns-then-count
returns-then-count g c =
    too_many c.loop-i.invariant c.loop-i-test.true c.if-b-eq44.true c.if-count.true

pub bounds-ends-count : goal.bounds-ends-count
bounds-ends-count g c = omega (arith, c.loop-i.invariant.room, c.if-count.false)

pub offset_bounds-ends-count : goal.offset_bounds-ends-count
offset_bounds-ends-count g c = omega (arith, c.loop-i.invariant.room, c.if-count.false)

pub overflow_add-count : goal.overflow_add-count
overflow_add-count g c = omega (arith, c.loop-i.invariant.few, c.loop-i-test.true)

pub loop-i-preserved : goal.loop-i-preserved
loop-i-preserved g c =
    let here = c.loop-i.invariant in
    elim c.if-b-eq44.branch [
      | then-b-eq44+else-count w ↦ rw (w.ends-is, w.count-is)
          (splitting_comma here c.loop-i-test.true w.if-b-eq44.true
          (omega (arith, here.room, w.if-count.false)))
      | else-b-eq44 w ↦ rw (w.ends-is, w.count-is)
          (splitting_byte here c.loop-i-test.true w.if-b-eq44.false)
    ]

pub overflow_add-count-2 : goal.overflow_add-count-2
overflow_add-count-2 g c = omega (arith, c.loop-i.invariant.few, c.loop-i.auto.i-end)

pub returns-then-count-2 : goal.returns-then-count-2
returns-then-count-2 g c =
    λ e. c.if-count-2.true (sym (count_is c.loop-i.invariant c.loop-i-test.false) ∙ e)

pub invariant_of-result : goal.invariant_of-result
invariant_of-result g c =
    record { cut = ends_are c.loop-i.invariant c.loop-i-test.false c.loop-i.auto.i-end c.if-count-2.false }
