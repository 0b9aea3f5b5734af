-- `pass_over` meets its contract. The invariant: so many rounds, of those that are left, lead from the table at entry
-- to the one that periods are counted from. Assumes nothing.
use Rattle.std.proofs.Common.{◌≡◌, ◌≤◌}
use Rattle.leap.specs.Tables.{Advanced}
use Rattle.leap.proofs.pass.Stretch.pass_over.Given as goal

abbrev pub invariant-loop : goal.invariant-loop
invariant-loop l =
    let old = l.initial.self in
    (l.made ≤ l.left) × (l.self.compiled.now ≡ old.compiled.now) × (l.self.rounds ≡ old.rounds)
    × Advanced old.compiled.now.frame.network l.made old.base l.self.base
