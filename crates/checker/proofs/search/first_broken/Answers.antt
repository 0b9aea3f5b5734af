use native.Mathlib.Omega.{arith}
use Rattle.checker.proofs.Seeking.{row_none, row_some}
use Rattle.checker.proofs.search.first_broken.Goals as goal

pub loop-s-preserved : goal.loop-s-preserved
loop-s-preserved c = row_none c.loop-s.invariant (omega arith) c.first_broken_in.ensures c.in_default.is

pub returns-in-Some : goal.returns-in-Some
returns-in-Some c = row_some c.loop-s.invariant (omega arith) c.first_broken_in.ensures _ c.in-Some.is
