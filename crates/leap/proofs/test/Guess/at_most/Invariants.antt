-- `at_most` meets its contract. The invariant: every cell of a level below l is known not to be raised by faster ones
-- (`Climbed`). The measure is what is left below 10,080. Assumes nothing.
use Rattle.std.proofs.Common.{◌-◌}
use Rattle.leap.specs.Levels.{Faster}
use Rattle.leap.proofs.Climbed.{Climbed}
use Rattle.leap.proofs.test.Guess.at_most.Given as goal

abbrev pub invariant-loop-next : goal.invariant-loop-next
invariant-loop-next l =
    let Γ = l.self.compiled.now.frame.network in
    Climbed Γ l.self.d.now (Faster Γ l.self.p l.self.j l.self.t.now l.self.d.now) l.l

abbrev pub decreases-loop-next : goal.decreases-loop-next
decreases-loop-next l = 10080 - l.l
