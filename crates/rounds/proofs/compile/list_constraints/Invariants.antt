-- Each turn lists one constraint under its joint label. The invariant: those so far are listed, each list has at most
-- one bound for each, and each bound is between events of the sheet (`AskingAmong`). Assumes nothing.
use Rattle.rounds.specs.Compiled.{AskingAmong, constraints_ask}
use Rattle.rounds.proofs.compile.list_constraints.Given as goal

abbrev pub invariant-loop-c : goal.invariant-loop-c
invariant-loop-c l =
    AskingAmong l.frame.network l.lists l.c-index (constraints_ask l.frame.network l.c-index)
