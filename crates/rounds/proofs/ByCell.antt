-- A round is known by its cells: what holds of each scenario and event holds of each cell. Assumes nothing.
use mathlib.Core.Path.{◌≡◌, sym, ◌∙◌}
use mathlib.Core.List.{List}
use Prim.Native.Nat.{ℕ, ◌+◌, ◌*◌, ◌/◌, ◌%◌, ◌≤◌, ◌<◌}
use native.Mathlib.Omega.{arith}
use lib.ListN.{length, get_or}
use lib.Seq.{ext_get_or}
use Rattle.prelude.proofs.Bounded.{length-tabulate, get_d_tabulate}
use Rattle.prelude.proofs.Cells.{cell_lt, row_of_lem, column_of, by-cell}
use Rattle.fixpoint.specs.Order.{Below}
use Rattle.fixpoint.specs.Near.{Over}
use Rattle.fixpoint.proofs.Order.{below_by, over_by}
use Rattle.network.specs.Build.{scenarios, cells}
use Rattle.network.specs.Strategy.{time}
use Rattle.network.specs.declared.Network.{Network}
use Rattle.rounds.specs.Propagate.{raised, propagate}

module _ (Γ : Network) (σ : List ℕ) where
  -- the cells of a round
  pub length-propagate : length (propagate Γ σ) ≡ cells Γ
  unfolding propagate
  length-propagate = length-tabulate (λ i. raised Γ σ (i / Γ.events) (i % Γ.events)) (cells Γ)

  pub time-propagate : (s u : ℕ) → s < scenarios Γ → u < Γ.events
      → time Γ.events (propagate Γ σ) s u ≡ raised Γ σ s u
  unfolding propagate
  time-propagate s u hs hu =
      get_d_tabulate (λ i. raised Γ σ (i / Γ.events) (i % Γ.events)) (cells Γ) (s * Γ.events + u) 0
      (cell_lt Γ.events (scenarios Γ) s u hs hu)
      ∙ rw (row_of_lem Γ.events s u hu, column_of Γ.events s u hu)

-- what holds of each scenario and event holds of each cell
pub over_by-cell : (Γ : Network) (e : ℕ) (τ σ : List ℕ) → length σ ≡ cells Γ
    → ((s u : ℕ) → s < scenarios Γ → u < Γ.events → time Γ.events σ s u ≤ time Γ.events τ s u + e) → Over e τ σ
over_by-cell Γ e τ σ l h =
    over_by (cells Γ) e τ σ l (by-cell Γ.events (scenarios Γ) (λ i. get_or σ i 0 ≤ get_or τ i 0 + e) h)

pub below-by-cell : (Γ : Network) (σ τ : List ℕ) → length σ ≡ cells Γ
    → ((s u : ℕ) → s < scenarios Γ → u < Γ.events → time Γ.events σ s u ≤ time Γ.events τ s u) → Below σ τ
below-by-cell Γ σ τ l h =
    below_by (cells Γ) σ τ l (by-cell Γ.events (scenarios Γ) (λ i. get_or σ i 0 ≤ get_or τ i 0) h)

pub equal-by-cell : (Γ : Network) (σ τ : List ℕ) → length σ ≡ cells Γ → length τ ≡ cells Γ
    → ((s u : ℕ) → s < scenarios Γ → u < Γ.events → time Γ.events σ s u ≡ time Γ.events τ s u) → σ ≡ τ
equal-by-cell Γ σ τ l m h =
    ext_get_or 0 σ τ (l ∙ sym m) (λ i b.
    by-cell Γ.events (scenarios Γ) (λ k. get_or σ k 0 ≡ get_or τ k 0) h i (omega (arith, l)))
