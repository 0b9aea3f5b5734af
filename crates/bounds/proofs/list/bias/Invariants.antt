-- Each turn puts the bias on one time. The invariant: it is on those so far. Assumes nothing.
use Prim.Native.Nat.{◌+◌}
use lib.ListN.{get_or}
use Rattle.rows.specs.Rows.{Wrote}
use Rattle.bounds.proofs.list.bias.Given as goal

abbrev pub invariant-loop-u : goal.invariant-loop-u
invariant-loop-u l = Wrote l.initial.o l.o 0 l.u (λ k. get_or l.row k 0 + 10080)
