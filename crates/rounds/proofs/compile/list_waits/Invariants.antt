-- Where no event has a label none waits. Else each turn of the inner loop lists the wait of event w for one signal, if
-- its label has that. The invariants: the waits of the events before w are listed, and those of w for the signals
-- before p, and each bound is between events of the sheet (`AskingAmong`). Assumes nothing.
use Prim.Native.Nat.{◌+◌, ◌*◌}
use Rattle.rounds.specs.Compiled.{AskingAmong, all_ask}
use Rattle.rounds.proofs.compile.list_waits.Given as goal

abbrev pub invariant-loop-p : goal.invariant-loop-p
invariant-loop-p l = AskingAmong l.frame.network l.lists (64 + l.w * 4 + l.p) (all_ask l.frame.network l.w l.p)

abbrev pub invariant-loop-w : goal.invariant-loop-w
invariant-loop-w l = AskingAmong l.frame.network l.lists (64 + l.w * 4) (all_ask l.frame.network l.w 0)
