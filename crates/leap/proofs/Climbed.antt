-- How a test goes from level to level: below the level l every cell is known. The next level is higher, and none is
-- above 10,080. Assumes nothing.
use mathlib.Core.List.{List}
use Prim.Native.Nat.{ℕ, ◌*◌, ◌-◌, ◌≤◌, ◌<◌}
use native.Mathlib.Omega.{arith}
use Rattle.network.specs.Build.{scenarios}
use Rattle.network.specs.declared.Network.{Network}
use Rattle.rows.specs.Rows.{Times}
use Rattle.moves.specs.Levels.{NextLevel}
use Rattle.leap.specs.Levels.{Level}
use Rattle.leap.proofs.Strategies.{level_few}
use Rattle.leap.proofs.Levels.{Lower, lower-start, lower-next}

pub record Climbed (Γ : Network) (d : List ℕ) (P : ℕ → Type 0) (l : ℕ) : Type 0 where
  pub in_range_lem : l ≤ 10080
  pub lower : Lower Γ d l P

pub climbed_start : {Γ : Network} {d : List ℕ} {P : ℕ → Type 0} → Climbed Γ d P 0
climbed_start = record { in_range_lem = omega arith; lower = lower-start }

module _ {Γ : Network} {d : List ℕ} {l r : ℕ} (D : Times Γ d) (N : NextLevel d l (scenarios Γ * 16) r) where
  pub climbed_less : 10080 - r < 10080 - l
  climbed_less = omega (arith, N.more, level_few D N)

  pub climbed_next : {P : ℕ → Type 0} → Γ.events ≤ 16 → Climbed Γ d P l → Level Γ d l P → Climbed Γ d P r
  climbed_next few here known = record {
    in_range_lem = level_few D N;
    lower = lower-next few here.lower known N;
  }
