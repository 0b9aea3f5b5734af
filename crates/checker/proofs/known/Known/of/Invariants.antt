-- `of` meets its contract. The invariant: the times of the propositions passed are listed, in as many places as there
-- are propositions. Assumes nothing.
use Prim.Native.Nat.{ℕ, ◌<◌}
use mathlib.Core.Path.{◌≡◌}
use lib.ListN.{get_or, length}
use Rattle.checker.specs.Plain.{known_or_never}
use Rattle.checker.proofs.known.Known.of.Given as goal

abbrev pub invariant-loop-p : goal.invariant-loop-p
invariant-loop-p l =
    (length l.known-items ≡ length l.initial.known-items)
    × ((q : ℕ) → q < l.p →
    get_or l.known-items q 0 ≡ known_or_never l.strategy.formed.now.network l.strategy.table.now l.scenario q)
