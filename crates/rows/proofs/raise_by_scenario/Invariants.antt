-- Each turn raises one time. The invariant: the first u are raised. Assumes nothing.
use Prim.Native.Nat.{◌+◌, ◌*◌, max, min}
use lib.ListN.{get_or}
use Rattle.rows.specs.Rows.{Wrote}
use Rattle.rows.proofs.raise_by_scenario.Given as goal

abbrev pub invariant-loop-u : goal.invariant-loop-u
invariant-loop-u l = Wrote l.initial.o l.o 0 l.u (λ k. max (get_or l.initial.o k 0)
    (min (get_or l.t (l.r * 16 + k) 0) l.first))
