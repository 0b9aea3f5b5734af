-- Each turn raises one cell. The invariant: the first u are raised. Assumes nothing.
use Prim.Native.Nat.{◌-◌, max}
use lib.ListN.{get_or}
use Rattle.rows.specs.Rows.{Wrote}
use Rattle.rows.proofs.marks.raise_climb.Given as goal

abbrev pub invariant-loop-u : goal.invariant-loop-u
invariant-loop-u l = Wrote l.initial.climb l.climb 0 l.u (λ k. max (get_or l.initial.climb k 0)
    (get_or l.after k 0 - get_or l.before k 0))
