-- A run of a step: rounds from a floor on, under a cap that is itself a list, until a round raises nothing, takes an
-- entry over its cap, or the budget of rounds is used up.
use Rattle.std.specs.Prelude.{Bool, true, false, List, ℕ, zero, suc, ◌-◌, leb, length, get_or}
use Rattle.prelude.specs.Bounded.{all_below, sum_below}
use Rattle.prelude.specs.Bytes.{same}

-- whether no entry is over its cap
abbrev pub within : List ℕ → List ℕ → Bool
within cap t = all_below (length cap) (λ i. leb (get_or t i 0) (get_or cap i 0))

-- how far the entries of t may rise in all
abbrev pub room : List ℕ → List ℕ → ℕ
room cap t = sum_below (length cap) (λ i. get_or cap i 0 - get_or t i 0)

-- how a run ends: its last round raised nothing; it took an entry over its cap; the budget is used up
pub data End : Type 0 where
  Rests : End
  Passes : End
  Spent : End

-- how many rounds were made, what they reached, and why no more
pub record Run : Type 0 where
  pub rounds : ℕ
  pub reached : List ℕ
  pub end : End

abbrev pub ran : ℕ → List ℕ → End → Run
ran k t e = record { rounds = k; reached = t; end = e }

module _ (step : List ℕ → List ℕ) (cap : List ℕ) where
  -- at most n further rounds from t, after k of them: the cap is tested on what a round made
  abbrev pub run_from : ℕ → ℕ → List ℕ → Run
  run_from k zero t = ran k t Spent
  run_from k (suc n) t =
      elim (within cap (step t)) [
        | false ↦ ran (suc k) (step t) Passes
        | true ↦ elim (same (step t) t) [ true ↦ ran (suc k) t Rests | false ↦ run_from (suc k) n (step t) ]
      ]

  -- the run from a floor, with a budget that is never used up
  abbrev pub run : List ℕ → Run
  run floor = run_from 0 (suc (room cap floor)) floor
