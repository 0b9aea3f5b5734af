-- How many rounds a run takes, told without making it: the first round that raises nothing, or that takes an entry over
-- its cap, is the last of them. It is counted too. And what it means that n rounds do not end a run.
use Rattle.std.specs.Prelude.{◌≡◌, false, ◌⊎◌, List, ℕ, suc, ◌<◌}
use Rattle.fixpoint.specs.Iterate.{iterate}
use Rattle.fixpoint.specs.Run.{within}

module _ (step : List ℕ → List ℕ) (cap floor : List ℕ) where
  -- behind i rounds from the floor the next one is the last: it raises nothing, or takes an entry over its cap
  abbrev pub IsLast : ℕ → Type 0
  IsLast i =
      (iterate (suc i) step floor ≡ iterate i step floor) ⊎ (within cap (iterate (suc i) step floor) ≡ false)

  -- none of the first n rounds is the last: each raises an entry, and takes none over its cap
  abbrev pub GoesOn : ℕ → Type 0
  GoesOn n = (i : ℕ) → i < n → IsLast i → ⊥

  pub record Takes (rounds : ℕ) : Type 0 where
    pub before : ℕ
    pub count : rounds ≡ suc before
    pub last : IsLast before
    pub no_sooner : GoesOn before
