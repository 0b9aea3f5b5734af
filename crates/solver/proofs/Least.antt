-- Demand 3 on the definitions: the solutions, with zeros for their blanks, are the prefixpoints of the round within the
-- cap; so a run from all zeros rests at the least solution, once blanks are put in, and where it does not rest there is
-- none. Assumes nothing.
use Rattle.std.proofs.Common.{◌≡◌, ℕ, ◌+◌, ◌*◌, ◌≤◌, true, false, List, sym, ◌∙◌, inl, inr, arith, eq-eqb}
use lib.ListN.{length-replicate}
use Rattle.prelude.proofs.Tests.{either, clash, by_cond}
use Rattle.fixpoint.specs.Order.{Below}
use Rattle.fixpoint.specs.Step.{Prefixpoint}
use Rattle.fixpoint.specs.Run.{within, Rests}
use Rattle.fixpoint.proofs.Order.{zeros_below}
use Rattle.fixpoint.proofs.Run.{LeastOrNone, least_or_none}
use Rattle.network.specs.Limits as L
use Rattle.network.specs.Build.{cells}
use Rattle.network.specs.Happens.{happens}
use Rattle.network.specs.Strategy.{time}
use Rattle.network.specs.Solution.{Solution}
use Rattle.network.specs.Least.{NoLater, Least, Inconsistent}
use Rattle.network.specs.WellFormed.{WellFormed}
use Rattle.network.specs.declared.Network.{Network}
use Rattle.rounds.specs.Propagate.{propagate}
use Rattle.rounds.specs.Hyperarcs.{Waiting}
use Rattle.rounds.specs.Cap.{fixed, cap}
use Rattle.rounds.proofs.Hyperarcs.{hyperarcs_agree}
use Rattle.rounds.proofs.Rising.{closed_of, viable_of, waiting_of, hyperarcs_of}
use Rattle.rounds.proofs.Cap.{length-cap, within_cap, cap-within}
use Rattle.rounds.proofs.Effects.{step_rises}
use Rattle.solver.specs.Masked.{masked}
use Rattle.solver.specs.Solve.{floor, solve, found}
use Rattle.solver.proofs.Masked.{length-masked, masked_there, masked_missing, Good, blanked_solves, zeroed_good}

-- what is below a table with zeros for its blanks has no event later, once its own blanks are put in
pub no_later_of_below : (Γ : Network) (ρ τ : List ℕ) → Below ρ (masked Γ 0 τ) → NoLater Γ (masked Γ L.blank ρ) τ
no_later_of_below Γ ρ τ b = record {
  at_most = λ s u hs hu here.
      omega (
        arith,
        masked_there Γ L.blank ρ s u hs hu here,
        masked_there Γ 0 τ s u hs hu here,
        b.at (s * Γ.events + u),
      );
}

module _ (Γ : Network) (W : WellFormed Γ) where
  -- a solution, with zeros for its blanks, is a prefixpoint within the cap
  pub prefixpoint_of_solution : (σ : List ℕ) → Solution Γ σ → Prefixpoint (propagate Γ) (floor Γ) (masked Γ 0 σ)
  prefixpoint_of_solution σ h =
      let ρ = masked Γ 0 σ in
      let g = zeroed_good W σ h in
      let waiting : Waiting Γ ρ = record { waits = λ s u hs hu e. (g.placed s u hs hu e).waits } in
      record {
        sized = length-masked Γ 0 σ ∙ sym (length-replicate (cells Γ) 0);
        above = zeros_below (cells Γ) ρ;
        closed = closed_of Γ ρ (length-masked Γ 0 σ) (record { holds = g.viable }) waiting
            ((hyperarcs_agree Γ ρ W waiting).0 (record { alike = g.dynamic }));
      }

  pub within_of_solution : (σ : List ℕ) → Solution Γ σ → within (cap Γ) (masked Γ 0 σ) ≡ true
  within_of_solution σ h = within_cap Γ (masked Γ 0 σ) (λ s u hs hu.
      let zero = masked_missing Γ 0 σ s u hs hu in
      let g = (zeroed_good W σ h).placed s u hs hu in
      record {
        in_horizon = by_happening s u (λ e. (g e).in_horizon) (λ e. omega (arith, zero e));
        origin = λ z. by_happening s u (λ e. (g e).origin z) zero;
        absent = zero;
      })
    where
      by_happening : {A : Type 0} (s u : ℕ) → (happens Γ s u ≡ true → A) → (happens Γ s u ≡ false → A) → A
      by_happening s u f g = elim (either (happens Γ s u)) [ inl e ↦ f e | inr e ↦ g e ]

  -- and what is a prefixpoint within the cap is good
  pub good_of_prefixpoint : (ρ : List ℕ) → Prefixpoint (propagate Γ) (floor Γ) ρ → within (cap Γ) ρ ≡ true → Good Γ ρ
  good_of_prefixpoint ρ p e =
      let waiting = waiting_of Γ ρ W p.closed in
      record {
        placed = λ s u hs hu here.
            let low = cap-within Γ ρ e s u hs hu in
            let t = time Γ.events ρ s u in
            record {
              in_horizon = by_cond (λ (z : ℕ). t ≤ z → t ≤ Γ.horizon) (fixed Γ s u) 0 Γ.horizon
                  (λ _ l. omega arith) (λ _ l. l) low;
              origin = λ z. let l : t ≤ 0 = rw (eq-eqb u 0 z) at low in omega arith;
              waits = waiting.waits s u hs hu here;
            };
        viable = (viable_of Γ ρ W p.closed).holds;
        dynamic = ((hyperarcs_agree Γ ρ W waiting).1 (hyperarcs_of Γ ρ W p.closed)).alike;
      }

  ends : LeastOrNone (propagate Γ) (cap Γ) (step_rises Γ) (floor Γ) (solve Γ)
  unfolding solve
  ends = least_or_none (propagate Γ) (cap Γ) (step_rises Γ) (floor Γ)
      (length-replicate (cells Γ) 0 ∙ sym (length-cap Γ))

  -- where the run rests it has the least solution
  pub solve-least : (solve Γ).end ≡ Rests → Least Γ (found Γ)
  solve-least e =
      let ρ = (solve Γ).reached in
      record {
        solves = blanked_solves W ρ (good_of_prefixpoint ρ (ends.rests e).0 (ends.rests e).1);
        no_later = λ τ h. no_later_of_below Γ ρ τ (ends.below (masked Γ 0 τ) (prefixpoint_of_solution τ h));
      }

  -- and where it does not there is none
  pub solve-none : ((solve Γ).end ≡ Rests → ⊥) → Inconsistent Γ
  solve-none n = record {
    none = λ τ h.
        clash (within (cap Γ) (masked Γ 0 τ)) (within_of_solution τ h)
        (ends.none n (masked Γ 0 τ) (prefixpoint_of_solution τ h));
  }
