-- What is tested of the cells of one rise.
use Rattle.std.specs.Prelude.{◌≡◌, List, ℕ, ◌+◌, ◌*◌, ◌<◌, get_or}
use Rattle.fixpoint.specs.Iterate.{iterate}
use Rattle.fixpoint.specs.Straight as S
use Rattle.network.specs.Build.{scenarios}
use Rattle.network.specs.declared.Network.{Network}
use Rattle.rounds.specs.Propagate.{propagate}
use Rattle.rounds.specs.Rounds.{held}
use Rattle.moves.specs.Moves.{Between}
use Rattle.leap.specs.Tables.{Far}

-- p rounds from t so moved on take each cell of rise l at least `least` and at most `most` on
pub record AtLevel (Γ : Network) (p j : ℕ) (t d : List ℕ) (l lo hi least most : ℕ) : Type 0 where
  pub table : List ℕ
  pub far : Far Γ p j t d lo hi table
  pub between : Between t d l least most table (scenarios Γ * 16)

-- at a cell of the strategy that t holds, p rounds for the step
abbrev pub Faster : Network → ℕ → ℕ → List ℕ → List ℕ → ℕ → Type 0
Faster Γ p j t d = S.Faster (iterate p (propagate Γ)) (held Γ t) (held Γ d) j

abbrev pub Slower : Network → ℕ → ℕ → List ℕ → List ℕ → ℕ → Type 0
Slower Γ p j t d = S.Slower (iterate p (propagate Γ)) (held Γ t) (held Γ d) j

-- so it is at each cell whose rise is l
pub record Level (Γ : Network) (d : List ℕ) (l : ℕ) (P : ℕ → Type 0) : Type 0 where
  pub at : (s u : ℕ) → s < scenarios Γ → u < Γ.events → get_or d (s * 16 + u) 0 ≡ l → P (s * Γ.events + u)
