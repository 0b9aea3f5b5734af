-- When a step is seen to move a list on by rises that come again: tests of far lists, one for each entry.
use Rattle.std.specs.Prelude.{List, ℕ, ◌+◌, ◌-◌, ◌*◌, ◌≤◌, ◌<◌, min, length, get_or}
use Rattle.prelude.specs.Bounded.{tabulate}

-- t with j times the rise of each entry
unfoldable pub moved : List ℕ → ℕ → (ℕ → ℕ) → List ℕ
moved t j rise = tabulate (length t) (λ i. get_or t i 0 + j * rise i)

module _ (step : List ℕ → List ℕ) (t d : List ℕ) (j : ℕ) where
  -- at the entry c, of rise l, the step adds at most l, though entries that are faster stand j leads ahead
  pub record Faster (c : ℕ) : Type 0 where
    pub is : get_or (step (moved t j (λ i. get_or d i 0 - get_or d c 0))) c 0 ≤ get_or t c 0 + get_or d c 0

  -- j moves on it adds at least l, though entries that are slower stand j lags behind
  pub record Slower (c : ℕ) : Type 0 where
    pub is : get_or t c 0 + get_or d c 0 + j * get_or d c 0
        ≤ get_or (step (moved t j (λ i. min (get_or d i 0) (get_or d c 0)))) c 0

  -- so it is at every entry
  pub record AtMost : Type 0 where
    pub faster : (c : ℕ) → c < length t → Faster c

  pub record AtLeast : Type 0 where
    pub slower : (c : ℕ) → c < length t → Slower c
