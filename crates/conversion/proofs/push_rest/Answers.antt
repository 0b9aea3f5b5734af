use mathlib.Core.List.{map}
use native.Mathlib.Omega.{arith}
use lib.ListN.{length-append}
use Rattle.layout.specs.Layout.{lines}
use Rattle.conversion.specs.Converted.{doubled}
use Rattle.conversion.proofs.Writing.{writing-room}
use Rattle.conversion.proofs.push_rest.Goals as goal

pub push_doubled-requires : goal.push_doubled-requires
push_doubled-requires c =
    let room = writing-room c.loop-line.page (doubled c.in-Some.line.now) (map doubled c.next.new.self)
    (rw c.in-Some.ensures.steps at c.loop-line.invariant) in
    omega (arith, room, c.requires, length-append c.args.page.now (lines (map doubled c.args.left)))
