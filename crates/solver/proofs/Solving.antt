-- The table that a run begins with, all zeros, and what is handed out of the one that it ends with; and that no run
-- takes more rounds than the solver's budget. Assumes nothing.
use Rattle.std.proofs.Common.{◌≡◌, ℕ, zero, suc, ◌+◌, ◌-◌, ◌*◌, ◌/◌, ◌%◌, ◌<◌, ◌≤◌, cond, List, length, get_or}
use Rattle.std.proofs.Common.{replicate, sym, refl, ◌∙◌, mul-le-mul, arith}
use lib.ListN.{length-replicate}
use Rattle.prelude.specs.Bounded.{sum_below, tabulate}
use Rattle.prelude.proofs.Bounded.{length-tabulate, get_d_tabulate}
use Rattle.prelude.proofs.Cells.{cell_lt, row_of_lem, column_of}
use Rattle.fixpoint.specs.Run.{room}
use Rattle.network.specs.Limits as L
use Rattle.network.specs.Build.{scenarios, cells}
use Rattle.network.specs.Happens.{happens}
use Rattle.network.specs.WellFormed.{WellFormed}
use Rattle.network.specs.declared.Network.{Network}
use Rattle.rows.specs.Rows.{handed, Times}
use Rattle.rows.proofs.Gapless.{sixteen, length-gapless, gapless-at}
use Rattle.rounds.specs.Cap.{cap}
use Rattle.rounds.specs.Rounds.{held}
use Rattle.rounds.proofs.ByCell.{equal-by-cell}
use Rattle.rounds.proofs.Cap.{length-cap, cap-few}
use Rattle.solver.specs.Masked.{masked}
use Rattle.solver.specs.Solve.{floor, solve}
use Rattle.solver.proofs.Masked.{masked_as}
use Rattle.solver.proofs.Rounds.{counted, room_is}

-- as the code has them: as many rounds as no network uses up, and a table that holds nothing yet
abbrev pub budget : ℕ
budget = L.cells * L.horizon + 1

abbrev pub zeros : List ℕ
zeros = replicate L.cells 0

zeros_at : (n i : ℕ) → get_or {A = ℕ} (replicate n 0) i 0 ≡ 0
zeros_at zero i = refl
zeros_at (suc n) zero = refl
zeros_at (suc n) (suc i) = zeros_at n i

pub zero-times : (Γ : Network) → Times Γ zeros
zero-times Γ = record {
  sized = length-replicate {A = ℕ} L.cells 0;
  few = λ s u h l. rw (zeros_at L.cells (s * 16 + u)) (omega arith);
  beyond = λ s u h l m. zeros_at L.cells (s * 16 + u);
  absent = λ s u h l e. zeros_at L.cells (s * 16 + u);
}

sum_below_le : (f : ℕ → ℕ) (n m : ℕ) → ((k : ℕ) → k < n → f k ≤ m) → sum_below n f ≤ n * m
sum_below_le f zero m h = omega arith
sum_below_le f (suc n) m h = omega (arith, h n (omega arith), sum_below_le f n m (λ k l. h k (omega arith)))

-- what is handed out has blanks where events do not happen
pub handed-masked : (Γ : Network) (t : List ℕ) → handed Γ t ≡ masked Γ L.blank (held Γ t)
unfolding handed
handed-masked Γ t =
    let at : ℕ → ℕ = λ i.
    cond (happens Γ (i / Γ.events) (i % Γ.events)) (get_or t (i / Γ.events * 16 + i % Γ.events) 0) L.blank in
    masked_as Γ L.blank (held Γ t) (tabulate (cells Γ) at) (length-tabulate _ (cells Γ))
    (λ s u h l.
    get_d_tabulate at (cells Γ) (s * Γ.events + u) 0 (cell_lt Γ.events (scenarios Γ) s u h l)
    ∙ rw (row_of_lem Γ.events s u l, column_of Γ.events s u l, gapless-at Γ.events (scenarios Γ) t s u h l))

-- no time is held yet
pub held_zeros : (Γ : Network) → held Γ zeros ≡ floor Γ
held_zeros Γ =
    equal-by-cell Γ (held Γ zeros) (floor Γ) (length-gapless Γ.events (scenarios Γ) zeros)
    (length-replicate {A = ℕ} (cells Γ) 0) (λ s u h l.
    gapless-at Γ.events (scenarios Γ) zeros s u h l
    ∙ (zeros_at 256 (s * 16 + u) ∙ sym (zeros_at (cells Γ) (s * Γ.events + u))))

module _ (Γ : Network) (W : WellFormed Γ) where
  room-few : room (cap Γ) (floor Γ) ≤ 2580480
  room-few =
      let size : cells Γ ≤ 256 = mul-le-mul W.events (sixteen Γ.signals W.signals) in
      let most : room (cap Γ) (floor Γ) ≤ length (cap Γ) * 10080 =
      sum_below_le (λ i. get_or (cap Γ) i 0 - get_or (floor Γ) i 0) (length (cap Γ)) 10080 (λ i l.
      omega (arith, cap-few Γ i (omega (arith, length-cap Γ)), W.horizon))
      in
      omega (arith, most, length-cap Γ, size)

  -- no run takes more rounds than the budget
  pub rounds_few : (solve Γ).rounds ≤ budget
  rounds_few = omega (arith, (counted Γ).most, room_is Γ, room-few)
