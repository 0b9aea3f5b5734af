use mathlib.Core.List.{map}
use native.Mathlib.Omega.{arith}
use Rattle.conversion.specs.FormerRules.{as_max, read_as_max_lem}
use Rattle.conversion.proofs.Length.{length-read_as_max}
use Rattle.conversion.proofs.Writing.{writing-room}
use Rattle.conversion.proofs.read_as_max.Goals as goal

pub loop-line-init : goal.loop-line-init
unfolding read_as_max_lem
loop-line-init c =
    rw (c.new-page.ensures, c.into_iter-line-iterator.ensures.into_iter_gives, c.of-line-items.ensures)

pub push_as_max-requires : goal.push_as_max-requires
push_as_max-requires c =
    let room = writing-room c.loop-line.page (as_max c.in-Some.line.now) (map as_max c.next.new.self)
    (rw c.in-Some.ensures.steps at c.loop-line.invariant) in
    omega (arith, room, c.requires, length-read_as_max c.args.sheet.now)
