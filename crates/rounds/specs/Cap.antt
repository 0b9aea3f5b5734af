-- The limit of each cell, which a round passes where it takes the cell beyond: 0 for the start, and the horizon for any
-- other event; and 0 where an event does not happen, in a cell that a round leaves at the zero it starts from.
use Rattle.std.specs.Prelude.{Bool, ◌||◌, not, cond, List, ℕ, ◌/◌, ◌%◌, eqb}
use Rattle.prelude.specs.Bounded.{tabulate}
use Rattle.network.specs.Build.{cells}
use Rattle.network.specs.Happens.{happens}
use Rattle.network.specs.declared.Network.{Network}

module _ (Γ : Network) where
  -- cells that do not move
  abbrev pub fixed : ℕ → ℕ → Bool
  fixed s u = eqb u 0 || not (happens Γ s u)

  abbrev pub cap : List ℕ
  cap = tabulate (cells Γ) (λ i. cond (fixed (i / Γ.events) (i % Γ.events)) 0 Γ.horizon)
