-- What has been defined so far of a sheet whose lines are being read.
use Rattle.std.specs.Prelude.{List, ℕ, ◌+◌, ◌≤◌, ◌<◌, length, get_or}
use Rattle.network.specs.Limits as L
use Rattle.network.specs.declared.Network.{Network}

-- no more events and signals than a network may have, and the names of the events are parts of the sheet
pub record NamesIn (sheet : List ℕ) (Γ : Network) : Type 0 where
  pub few_events : Γ.events ≤ L.events
  pub few_signals : Γ.signals ≤ L.signals
  pub inside : (u : ℕ) → u < Γ.events → get_or Γ.starts u 0 + get_or Γ.lengths u 0 ≤ length sheet
