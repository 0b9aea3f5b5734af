-- The invariant, `Splitting`: the ends below `count` are known, and those from `count` on are those of what is left, i
-- further on. Assumes nothing.
use Rattle.text.proofs.Splitting.{Splitting}
use Rattle.text.proofs.split.Fields.of.Given as goal

abbrev pub invariant-loop-i : goal.invariant-loop-i
invariant-loop-i g l = Splitting g.row.N l.line l.ends l.count l.i
