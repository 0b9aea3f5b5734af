use native.Mathlib.Omega.{arith}
use Rattle.dispatch.proofs.Core.{summing_fits}
use Rattle.dispatch.proofs.Moment.due_in.Goals as goal

pub overflow_add-due : goal.overflow_add-due
overflow_add-due c =
    record { fits = summing_fits c.loop-u.invariant (omega arith) }
