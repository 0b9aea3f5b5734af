-- The limits, cell by cell: 0 for the start and where an event does not happen, and else the horizon. Assumes nothing.
use mathlib.Core.Path.{◌≡◌, ◌∙◌}
use mathlib.Core.Logic.{inl, inr}
use mathlib.Core.Bool.{Bool, true, false, not, cond}
use mathlib.Core.List.{List}
use Prim.Native.Nat.{ℕ, ◌+◌, ◌*◌, ◌/◌, ◌%◌, ◌≤◌, ◌<◌}
use native.Mathlib.Omega.{arith}
use borrow.Author.Tests.{eqb-true, not-true}
use lib.Dec.{eqb}
use lib.ListN.{length, get_or}
use Rattle.prelude.proofs.Tests.{by_cond, or-true}
use Rattle.prelude.proofs.Bounded.{length-tabulate, get_d_tabulate}
use Rattle.prelude.proofs.Cells.{cell_lt, row_of_lem, column_of, by-cell}
use Rattle.fixpoint.specs.Run.{within}
use Rattle.fixpoint.proofs.Within.{within-at, within_by}
use Rattle.network.specs.Build.{scenarios, cells}
use Rattle.network.specs.Happens.{happens}
use Rattle.network.specs.Strategy.{time}
use Rattle.network.specs.declared.Network.{Network}
use Rattle.rounds.specs.Cap.{fixed, cap}

pub cond-few : (b : Bool) (h m : ℕ) → h ≤ m → cond b 0 h ≤ m
cond-few true h m l = omega arith
cond-few false h m l = l

module _ (Γ : Network) where
  pub length-cap : length (cap Γ) ≡ cells Γ
  length-cap = length-tabulate _ (cells Γ)

  cap-at : (s u : ℕ) → s < scenarios Γ → u < Γ.events
      → get_or (cap Γ) (s * Γ.events + u) 0 ≡ cond (fixed Γ s u) 0 Γ.horizon
  cap-at s u hs hu =
      get_d_tabulate (λ i. cond (fixed Γ (i / Γ.events) (i % Γ.events)) 0 Γ.horizon) (cells Γ)
      (s * Γ.events + u) 0 (cell_lt Γ.events (scenarios Γ) s u hs hu)
      ∙ rw (row_of_lem Γ.events s u hu, column_of Γ.events s u hu)

  pub cap-few : (i : ℕ) → i < cells Γ → get_or (cap Γ) i 0 ≤ Γ.horizon
  cap-few i b =
      by-cell Γ.events (scenarios Γ) (λ i. get_or (cap Γ) i 0 ≤ Γ.horizon)
      (λ s u hs hu. rw (cap-at s u hs hu) (cond-few (fixed Γ s u) Γ.horizon Γ.horizon (omega arith))) i b

  module _ (σ : List ℕ) where
    -- what is asked of one cell
    pub record Limited (s u : ℕ) : Type 0 where
      pub in_horizon : time Γ.events σ s u ≤ Γ.horizon
      pub origin : u ≡ 0 → time Γ.events σ s u ≡ 0
      pub absent : happens Γ s u ≡ false → time Γ.events σ s u ≡ 0

    limited : (s u : ℕ) → Limited s u → time Γ.events σ s u ≤ cond (fixed Γ s u) 0 Γ.horizon
    limited s u l =
        let m = time Γ.events σ s u in
        by_cond (λ (z : ℕ). m ≤ z) (fixed Γ s u) 0 Γ.horizon
        (λ e. elim (or-true (eqb u 0) (not (happens Γ s u)) e) [
          | inl q ↦ omega (arith, l.origin (eqb-true u 0 q))
          | inr q ↦ omega (arith, l.absent (not-true _ q))
        ])
        (λ _. l.in_horizon)

    pub within_cap : ((s u : ℕ) → s < scenarios Γ → u < Γ.events → Limited s u) → within (cap Γ) σ ≡ true
    within_cap h = within_by (cap Γ) σ (λ i l.
        by-cell Γ.events (scenarios Γ) (λ i. get_or σ i 0 ≤ get_or (cap Γ) i 0)
        (λ s u hs hu. rw (cap-at s u hs hu) (limited s u (h s u hs hu)))
        i (rw length-cap at l))

    pub cap-within : within (cap Γ) σ ≡ true → (s u : ℕ) → s < scenarios Γ → u < Γ.events
        → time Γ.events σ s u ≤ cond (fixed Γ s u) 0 Γ.horizon
    cap-within e s u hs hu =
        rw (cap-at s u hs hu) at
        (within-at (cap Γ) σ e (s * Γ.events + u) (rw length-cap (cell_lt Γ.events (scenarios Γ) s u hs hu)))
