-- `rise` meets its contract: each turn writes one difference. The invariant: i differences are written, and the rest
-- is zero. Assumes nothing.
use Rattle.std.proofs.Common.{◌-◌, get_or, replicate}
use Rattle.rows.specs.Rows.{Wrote}
use Rattle.moves.proofs.rise.Given as goal

abbrev pub invariant-loop-i : goal.invariant-loop-i
invariant-loop-i l = Wrote (replicate 256 0) l.d 0 l.i (λ k. get_or l.x k 0 - get_or l.t k 0)
