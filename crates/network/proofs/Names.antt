-- Laws of names as parts of the sheet, for the code that writes them. Assumes nothing.
use mathlib.Core.Path.{◌≡◌}
use mathlib.Core.List.{List}
use Prim.Native.Nat.{ℕ, ◌+◌, ◌-◌, ◌≤◌, ◌<◌}
use native.Mathlib.Omega.{arith}
use lib.ListN.{length, take, drop, length-take}
use Rattle.network.specs.Build.{name_of_lem}
use Rattle.network.specs.WellFormed.{Named}
use Rattle.network.specs.declared.Network.{Network}

-- the part from a to a + l is of l bytes
pub part-from : (a l : ℕ) (s : List ℕ) → take (a + l - a) (drop a s) ≡ take l (drop a s)
part-from a l s = let size : a + l - a ≡ l = omega arith in rw size

-- a name is of at most 8 bytes
pub name-short : (Γ : Network) (sheet : List ℕ) (u : ℕ) → Named sheet Γ → u < Γ.events
    → length (name_of_lem Γ sheet u) ≤ 8
name-short Γ sheet u n h = rw length-take (omega (arith, n.short u h))
