-- A run whose budget of n rounds is used up has reached a floor: below every solution, and the room that is left bounds
-- the rounds that are. One with budget enough is the solver's. Assumes nothing.
use Rattle.std.proofs.Common.{◌≡◌, ℕ, ◌+◌, ◌-◌, ◌*◌, ◌/◌, ◌%◌, ◌<◌, ◌≤◌, Bool, not, cond, List, get_or, arith}
use Rattle.std.proofs.Common.{eqb, refl, length}
use borrow.Author.Tests.{not-false}
use Rattle.prelude.proofs.Tests.{by_cond, or-false}
use Rattle.prelude.proofs.Bounded.{sum_below_mono, sum_below-same, get_d_tabulate}
use Rattle.prelude.proofs.Sums.{sum_below_scaled}
use Rattle.prelude.proofs.Cells.{by-cell, row_of_lem, column_of}
use Rattle.fixpoint.specs.Iterate.{iterate}
use Rattle.fixpoint.specs.Run.{room, Spent, Run, run_from}
use Rattle.fixpoint.proofs.Takes.{takes_once, goes_iff}
use Rattle.fixpoint.proofs.Stopped.{stopped_is, finished, spent_iff}
use Rattle.network.specs.Limits as L
use Rattle.network.specs.Build.{scenarios, cells}
use Rattle.network.specs.Happens.{happens}
use Rattle.network.specs.Strategy.{time}
use Rattle.network.specs.WellFormed.{WellFormed}
use Rattle.network.specs.declared.Network.{Network}
use Rattle.rounds.specs.Propagate.{propagate}
use Rattle.rounds.specs.Cap.{fixed, cap}
use Rattle.rounds.proofs.Cap.{length-cap}
use Rattle.rounds.proofs.Effects.{step_rises}
use Rattle.solver.specs.Masked.{masked}
use Rattle.solver.specs.Solve.{floor, solve}
use Rattle.solver.specs.Rounds.{moving}
use Rattle.solver.specs.Stopped.{floor_after, left, FloorAfter}
use Rattle.solver.proofs.Masked.{length-masked, masked_there}
use Rattle.solver.proofs.Least.{prefixpoint_of_solution, no_later_of_below}
use Rattle.solver.proofs.Rounds.{floor_sized, solve_ends}

module _ (Γ : Network) where
  -- the sum is the room that is left
  left_is : (ρ : List ℕ) → left Γ ρ ≡ room (cap Γ) ρ
  left_is ρ =
      let still : ℕ → Bool = λ i. fixed Γ (i / Γ.events) (i % Γ.events) in
      let f : ℕ → ℕ = λ i. cond (still i) 0 Γ.horizon in
      let less : (i : ℕ) → ◌≡◌ {A = ℕ} (cond (still i) 0 (Γ.horizon - get_or ρ i 0)) (f i - get_or ρ i 0) =
      λ i. by_cond (λ (x : ℕ). x ≡ cond (still i) 0 Γ.horizon - get_or ρ i 0) (still i) 0 (Γ.horizon - get_or ρ i 0)
      (λ e. rw e (omega arith)) (λ e. rw e) in
      rw (length-cap Γ)
      (sum_below-same (λ i. cond (still i) 0 (Γ.horizon - get_or ρ i 0)) (λ i. get_or (cap Γ) i 0 - get_or ρ i 0)
      (cells Γ)
      (λ i l. omega (arith, less i, get_d_tabulate f (cells Γ) i 0 l)))

  -- it looks at no blank
  left_masked : (d : ℕ) (ρ : List ℕ) → left Γ (masked Γ d ρ) ≡ left Γ ρ
  left_masked d ρ =
      let at : List ℕ → ℕ → ℕ =
      λ σ i. cond (fixed Γ (i / Γ.events) (i % Γ.events)) 0 (Γ.horizon - get_or σ i 0) in
      sum_below-same (at (masked Γ d ρ)) (at ρ) (cells Γ)
      (by-cell Γ.events (scenarios Γ) (λ i. at (masked Γ d ρ) i ≡ at ρ i) (λ s u hs hu.
      rw (row_of_lem Γ.events s u hu, column_of Γ.events s u hu)
      (by_cond (λ (x : ℕ). x ≡ cond (fixed Γ s u) 0 (Γ.horizon - time Γ.events ρ s u)) (fixed Γ s u) 0
      (Γ.horizon - time Γ.events (masked Γ d ρ) s u)
      (λ e. rw e)
      (λ e.
      let here = not-false (happens Γ s u) (or-false (eqb u 0) (not (happens Γ s u)) e).1 in
      rw (e, masked_there Γ d ρ s u hs hu here)))))

  pub length-floor : (n : ℕ) → length (floor_after Γ n) ≡ cells Γ
  length-floor n = length-masked Γ L.blank (iterate n (propagate Γ) (floor Γ))

  -- no floor leaves more than all zeros do
  pub left_most : (σ : List ℕ) → left Γ σ ≤ moving Γ * Γ.horizon
  left_most σ =
      let still : ℕ → Bool = λ i. fixed Γ (i / Γ.events) (i % Γ.events) in
      omega (
        arith,
        sum_below_mono (λ i. cond (still i) 0 (Γ.horizon - get_or σ i 0)) (λ i. cond (still i) 0 Γ.horizon) (cells Γ)
            (λ i l. by_cond (λ (x : ℕ). x ≤ cond (still i) 0 Γ.horizon) (still i) 0 (Γ.horizon - get_or σ i 0)
            (λ e. omega arith) (λ e. rw e (omega arith))),
        sum_below_scaled Γ.horizon still (cells Γ),
      )

  module _ (n : ℕ) where
    abbrev within_n : Run
    within_n = run_from (propagate Γ) (cap Γ) 0 n (floor Γ)

    -- it is stopped where n rounds are fewer than the solver makes
    pub stopped : n < (solve Γ).rounds
        → (within_n.end ≡ Spent) × (within_n.reached ≡ iterate n (propagate Γ) (floor Γ))
    unfolding solve
    stopped h =
        let e = (spent_iff (propagate Γ) (cap Γ) (step_rises Γ) (floor Γ) (floor_sized Γ) n).1 h in
        (e, (stopped_is (propagate Γ) (cap Γ) (step_rises Γ) (floor Γ) (floor_sized Γ) n e).reached)

    pub stopped_only : within_n.end ≡ Spent → n < (solve Γ).rounds
    unfolding solve
    stopped_only = (spent_iff (propagate Γ) (cap Γ) (step_rises Γ) (floor Γ) (floor_sized Γ) n).0

    -- and otherwise it is the solver's
    pub unstopped : (solve Γ).rounds ≤ n → within_n ≡ solve Γ
    unfolding solve
    unstopped h =
        finished (propagate Γ) (cap Γ) (step_rises Γ) (floor Γ) (floor_sized Γ) n
        (λ e. omega (arith, stopped_only e))

    remaining : n < (solve Γ).rounds → (solve Γ).rounds ≤ n + (left Γ (floor_after Γ n) + 1)
    unfolding solve
    remaining h =
        let s = stopped h in
        let ρ = iterate n (propagate Γ) (floor Γ) in
        let is = stopped_is (propagate Γ) (cap Γ) (step_rises Γ) (floor Γ) (floor_sized Γ) n s.0 in
        let more = rw s.1 at is.remaining in
        omega (arith, more, left_is ρ, left_masked L.blank ρ)

    pub floor_known : WellFormed Γ → n < (solve Γ).rounds → FloorAfter Γ n (floor_after Γ n)
    unfolding solve
    floor_known W h =
        let s = stopped h in
        let is = stopped_is (propagate Γ) (cap Γ) (step_rises Γ) (floor Γ) (floor_sized Γ) n s.0 in
        let takes = (solve_ends Γ).takes in
        record {
          unfinished = (goes_iff takes).0 h;
          reached = refl;
          below = λ τ g.
              no_later_of_below Γ (iterate n (propagate Γ) (floor Γ)) τ
              (rw s.1 at (is.below (masked Γ 0 τ) (prefixpoint_of_solution Γ W τ g)));
          remaining = λ k t. omega (arith, takes_once t takes, remaining h);
        }
