-- The edge of 17: 64 rows fit a sheet, and 65 do not. Assumes nothing.
use mathlib.Core.Path.{◌≡◌, refl}
use mathlib.Core.Bool.{true, false}
use Prim.Native.Nat.{ℕ, ◌≤◌, ◌<◌}
use borrow.Author.Tests.{leb-true, leb-false, le-leb, lt-leb}
use Rattle.network.specs.Limits as L
use Rattle.calls.specs.Calls.{fit}

pub sixty_four-fit : fit 64 ≡ true
sixty_four-fit = refl

pub sixty_five_do_not : fit 65 ≡ false
sixty_five_do_not = refl

module _ (rows : ℕ) where
  pub few-fit : rows ≤ L.rules → fit rows ≡ true
  few-fit h = le-leb rows L.rules h

  pub many_do_not : L.rules < rows → fit rows ≡ false
  many_do_not h = lt-leb rows L.rules h

  pub fit-few : fit rows ≡ true → rows ≤ L.rules
  fit-few e = leb-true rows L.rules e

  pub not-fit-many : fit rows ≡ false → L.rules < rows
  not-fit-many e = leb-false rows L.rules e
