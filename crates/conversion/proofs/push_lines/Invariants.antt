-- Of so many lines, those that are still to be written are the first of those that are left. Assumes nothing.
use Prim.Native.Nat.{◌-◌}
use Rattle.conversion.proofs.Writing.{Fronting}
use Rattle.conversion.proofs.push_lines.Given as goal

abbrev pub invariant-loop : goal.invariant-loop
invariant-loop l = Fronting l.count l.initial.left l.initial.page (l.count - l.counter) l.left l.page
