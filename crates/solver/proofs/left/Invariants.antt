-- The sum goes over the cells one by one. The invariant: it is that of the first i cells, and none adds more than the
-- latest minute. Assumes nothing.
use Rattle.std.proofs.Common.{◌≡◌, ℕ, ◌-◌, ◌*◌, ◌/◌, ◌%◌, ◌≤◌, cond, get_or}
use Rattle.prelude.specs.Bounded.{sum_below}
use Rattle.rounds.specs.Cap.{fixed}
use Rattle.solver.proofs.left.Given as goal

abbrev pub invariant-loop-i : goal.invariant-loop-i
invariant-loop-i l =
    let Γ = l.floor.formed.now.network in
    let at : ℕ → ℕ = λ i. cond (fixed Γ (i / Γ.events) (i % Γ.events)) 0 (Γ.horizon - get_or l.floor.table.now i 0) in
    (l.left ≡ sum_below l.i at) × (l.left ≤ l.i * 10080)
