-- What two sheets have in common whose forms are the same bytes (02, points 2, 3 and 6): "their horizons, event lists,
-- signal lists and remaining rows are equal", and "equal bytes now also means equal reactions", and "equal event
-- labels", both by value: no line and a line of 1, or of `-`, are equal. An upper bound names its events by their
-- places, which are the same events where the event lists are equal; so does a label its signals.
use Rattle.std.specs.Prelude.{◌≡◌, List, ℕ, ◌<◌}
use Rattle.network.specs.Build.{event_label}
use Rattle.network.specs.Strategy.{reaction}
use Rattle.network.specs.declared.Network.{Network}
use Rattle.tighten.specs.Tightest.{remaining_of}
use Rattle.canonical.specs.House.{names_of, signals_of}

pub record Same (sheet : List ℕ) (Γ : Network) (other : List ℕ) (Δ : Network) : Type 0 where
  pub horizons : Γ.horizon ≡ Δ.horizon
  pub events : names_of sheet Γ ≡ names_of other Δ
  pub signals : signals_of sheet Γ ≡ signals_of other Δ
  pub remaining : remaining_of Γ ≡ remaining_of Δ
  pub reactions : (p : ℕ) → p < Γ.signals → reaction Γ p ≡ reaction Δ p
  pub labels : (u : ℕ) → u < Γ.events → event_label Γ u ≡ event_label Δ u
