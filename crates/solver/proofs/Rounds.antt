-- The solver counts the rounds that the network takes. Between all zeros and the limits there is room for C × H raises,
-- so that these are at most C × H + 1. Assumes nothing.
use Rattle.std.proofs.Common.{◌≡◌, ℕ, ◌-◌, ◌*◌, ◌/◌, ◌%◌, ◌≤◌, Bool, true, false, ◌||◌, not, cond, sym, ◌∙◌, arith}
use Rattle.std.proofs.Common.{eqb, length, replicate}
use lib.ListN.{get_or, length-replicate, get_or-replicate}
use Rattle.prelude.specs.Bounded.{sum_below, tabulate}
use Rattle.prelude.proofs.Bounded.{sum_below_mono, sum_below-same, length-tabulate, get_d_tabulate}
use Rattle.prelude.proofs.Sums.{sum_below_scaled, rows_but_first}
use Rattle.fixpoint.specs.Run.{room}
use Rattle.fixpoint.proofs.Run.{least_or_none}
use Rattle.fixpoint.proofs.Takes.{Ended, run_takes}
use Rattle.network.specs.Build.{scenarios, cells}
use Rattle.network.specs.Happens.{happens}
use Rattle.network.specs.declared.Network.{Network}
use Rattle.rounds.specs.Propagate.{propagate}
use Rattle.rounds.specs.Cap.{fixed, cap}
use Rattle.rounds.proofs.Cap.{length-cap}
use Rattle.rounds.proofs.Effects.{step_rises}
use Rattle.solver.specs.Solve.{floor, solve}
use Rattle.solver.specs.Rounds.{moving, Counted}

-- the room of all zeros under a cap that is 0 in some places and h in the others
room_zeros : (h : ℕ) (t : ℕ → Bool) (n : ℕ)
    → room (tabulate n (λ i. cond (t i) 0 h)) (replicate n 0) ≡ sum_below n (λ i. cond (t i) 0 1) * h
room_zeros h t n =
    let f : ℕ → ℕ = λ i. cond (t i) 0 h in
    rw (length-tabulate f n)
    (sum_below-same (λ i. get_or (tabulate n f) i 0 - get_or (replicate n 0) i 0) f n
    (λ i l. omega (arith, get_d_tabulate f n i 0 l, get_or-replicate {A = ℕ} n i 0 0 l))
    ∙ sum_below_scaled h t n)

module _ (Γ : Network) where
  pub floor_sized : length (floor Γ) ≡ length (cap Γ)
  floor_sized = length-replicate (cells Γ) 0 ∙ sym (length-cap Γ)

  pub solve_ends : Ended (propagate Γ) (cap Γ) (step_rises Γ) (floor Γ) (solve Γ)
  unfolding solve
  solve_ends = run_takes (propagate Γ) (cap Γ) (step_rises Γ) (floor Γ) floor_sized

  pub room_is : room (cap Γ) (floor Γ) ≡ moving Γ * Γ.horizon
  room_is = room_zeros Γ.horizon (λ i. fixed Γ (i / Γ.events) (i % Γ.events)) (cells Γ)

  pub counted : Counted Γ (solve Γ).rounds
  unfolding solve
  counted = record {
    takes = solve_ends.takes;
    some = omega (arith, solve_ends.takes.count);
    most = omega (
      arith,
      room_is,
      (least_or_none (propagate Γ) (cap Γ) (step_rises Γ) (floor Γ) floor_sized).rounds,
    );
  }

  -- no more cells move than there are but for the start's
  abbrev columns : ℕ → ℕ
  columns i = cond (eqb (i % Γ.events) 0) 0 1

  pub moving_most : moving Γ ≤ (Γ.events - 1) * scenarios Γ
  moving_most =
      let here : ℕ → Bool = λ i. happens Γ (i / Γ.events) (i % Γ.events) in
      omega (
        arith,
        sum_below_mono (λ i. cond (fixed Γ (i / Γ.events) (i % Γ.events)) 0 1) columns (cells Γ)
            (λ i l. fewer (eqb (i % Γ.events) 0) (here i)),
        rows_but_first Γ.events (scenarios Γ),
      )
    where
      fewer : (a b : Bool) → ◌≤◌ (cond (a || not b) 0 1) (cond a 0 1)
      fewer true b = omega arith
      fewer false true = omega arith
      fewer false false = omega arith
