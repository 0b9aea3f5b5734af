-- Each turn raises one cell. The invariant: the first u are raised. Assumes nothing.
use Prim.Native.Nat.{max}
use lib.ListN.{get_or}
use Rattle.rows.specs.Rows.{Wrote}
use Rattle.rows.proofs.marks.raise_highest.Given as goal

abbrev pub invariant-loop-u : goal.invariant-loop-u
invariant-loop-u l = Wrote l.initial.highest l.highest 0 l.u (λ k. max (get_or l.initial.highest k 0)
    (get_or l.after k 0))
