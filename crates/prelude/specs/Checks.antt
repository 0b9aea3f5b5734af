-- Tests in checking order, each with what its failure is called: "on one line the lowest number" decides (01, Refused
-- sheets).
use Rattle.std.specs.Prelude.{◌≡◌, ◌⊎◌, Bool, true, false, List, [], ◌∷◌}
use Rattle.std.proofs.Math.Option.{Option, none, some}

module _ {A : Type 0} where
  -- the cause of the first test that fails
  abbrev pub first_failing_lem : List (Bool × A) → Option A
  first_failing_lem [] = none
  first_failing_lem (t ∷ ts) = elim t.0 [ true ↦ first_failing_lem ts | false ↦ some t.1 ]

  -- each of the tests holds
  abbrev pub Hold : List (Bool × A) → Type 0
  Hold [] = Unit {0}
  Hold (t ∷ ts) = (t.0 ≡ true) × Hold ts

  -- a test fails that is called c, and each before it holds
  abbrev pub FirstFails : List (Bool × A) → A → Type 0
  FirstFails [] c = ⊥
  FirstFails (t ∷ ts) c = ((t.0 ≡ false) × (t.1 ≡ c)) ⊎ ((t.0 ≡ true) × FirstFails ts c)
