-- A strategy with one number in each cell whose event does not happen: the solver runs with zeros there, and hands out
-- blanks.
use Rattle.std.specs.Prelude.{ℕ, ◌/◌, ◌%◌, cond, List, slice_index}
use Rattle.prelude.specs.Bounded.{tabulate}
use Rattle.network.specs.Build.{cells}
use Rattle.network.specs.Happens.{happens}
use Rattle.network.specs.declared.Network.{Network}

unfoldable pub masked : Network → ℕ → List ℕ → List ℕ
masked Γ d σ = tabulate (cells Γ) (λ i. cond (happens Γ (i / Γ.events) (i % Γ.events)) (slice_index σ i) d)
