-- Each turn keeps or clears one cell. The invariant: the first u are kept or cleared, and the rest is unaltered.
-- Assumes nothing.
use mathlib.Core.Bool.{cond}
use lib.ListN.{get_or}
use Rattle.network.specs.Happens.{happens}
use Rattle.rows.specs.Rows.{Wrote}
use Rattle.rows.proofs.frame.Frame.clear_absent.Given as goal

abbrev pub invariant-loop-u : goal.invariant-loop-u
invariant-loop-u l = Wrote l.initial.o l.o 0 l.u (λ k. cond (happens l.self.network l.s k) (get_or l.initial.o k 0) 0)
