-- The sheet keeps the solver longest of all sheets with n events, the horizon h and no signal.
use Rattle.std.specs.Prelude.{◌≡◌, List, ℕ, ◌+◌, ◌-◌, ◌*◌, ◌≤◌}
use Rattle.network.specs.Least.{Inconsistent}
use Rattle.sheet.specs.Reading.{network_of, Accepts}
use Rattle.layout.specs.Layout.{Layout}
use Rattle.solver.specs.Rounds.{TakesRounds}
use Rattle.heaviest.specs.RingText.{ring_contents}

pub record Heaviest (n h : ℕ) (sheet : List ℕ) : Type 0 where
  -- it is laid out as a sheet, so that it is accepted, and contains the ring and nothing else
  pub layout : Layout sheet
  pub contents : layout.contents ≡ ring_contents n h
  -- it takes exactly so many rounds
  pub takes : TakesRounds (network_of sheet) ((n - 1) * h + 1)
  -- and no other takes more
  pub most : (other : List ℕ) (k : ℕ) → Accepts other → (network_of other).events ≡ n → (network_of other).signals ≡ 0
      → (network_of other).horizon ≡ h → TakesRounds (network_of other) k → k ≤ (n - 1) * h + 1
  -- the last of them passes the horizon: no table is good
  pub no_table : Inconsistent (network_of sheet)
