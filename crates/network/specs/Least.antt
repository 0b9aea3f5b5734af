-- The least solution, which demand 3 asks of the solver: "each event, in each case, is no later than in any other
-- good table"; and "'No later' is now said of events that happen" (02, point 6).
use Rattle.std.specs.Prelude.{◌≡◌, true, List, ℕ, ◌≤◌, ◌<◌}
use Rattle.network.specs.Build.{scenarios}
use Rattle.network.specs.Happens.{happens}
use Rattle.network.specs.Strategy.{time}
use Rattle.network.specs.Solution.{Solution}
use Rattle.network.specs.declared.Network.{Network}

-- no event that happens is later in σ than in τ
pub record NoLater (Γ : Network) (σ τ : List ℕ) : Type 0 where
  pub at_most : (s u : ℕ) → s < scenarios Γ → u < Γ.events → happens Γ s u ≡ true
      → time Γ.events σ s u ≤ time Γ.events τ s u

pub record Least (Γ : Network) (σ : List ℕ) : Type 0 where
  pub solves : Solution Γ σ
  pub no_later : (τ : List ℕ) → Solution Γ τ → NoLater Γ σ τ

-- no good table exists: the network is not dynamically consistent within its horizon
pub record Inconsistent (Γ : Network) : Type 0 where
  pub none : (τ : List ℕ) → Solution Γ τ → ⊥
