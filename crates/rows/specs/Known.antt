-- When a set of propositions has its first known truth. A set is a number: p is in d where `truth d p`.
use Rattle.std.specs.Prelude.{◌≡◌, cond, List, ℕ, ◌+◌, ◌%◌, ◌^◌, ◌≤◌, ◌<◌, min, length, get_or}
use Rattle.prelude.specs.Bounded.{min_where}
use Rattle.network.specs.Scenario.{truth}
use Rattle.network.specs.Limits as L
use Rattle.network.specs.Build.{observation}
use Rattle.network.specs.Happens.{happens, given}
use Rattle.network.specs.Strategy.{reaction, known_from}
use Rattle.network.specs.declared.Network.{Network}

-- from when on p is known in s, or 32,767 where it is not given there
abbrev pub known_in : Network → List ℕ → ℕ → ℕ → ℕ
known_in Γ σ s p = cond (given Γ s p) (known_from Γ σ s p) 32767

-- the same by the times of s in a row; behind the last signal the observation is any number, and the remainder keeps it
-- in the row
abbrev pub known_at : Network → List ℕ → ℕ → ℕ → ℕ
known_at Γ row s p =
    let u = observation Γ p % L.events in
    cond (happens Γ s u) (get_or row u 0 + reaction Γ p) 32767

-- the least of f over those of the k first propositions that are in d, or 32,767, which is over every time and every
-- known time
abbrev pub first_of : ℕ → (ℕ → ℕ) → ℕ → ℕ
first_of k f d = min_where k (truth d) f 32767

-- the table of it
pub record FirstKnown (k : ℕ) (f : ℕ → ℕ) (first : List ℕ) : Type 0 where
  pub sized : length first ≡ 16
  pub is : (d : ℕ) → d < 2 ^ k → get_or first d 0 ≡ first_of k f d

-- p sets are there, and d of the p sets with one proposition more, whose truth is known from v on
pub record Doubled (p v : ℕ) (first first' : List ℕ) (d : ℕ) : Type 0 where
  pub sized : length first' ≡ 16
  pub within : d ≤ p
  pub low : (k : ℕ) → k < p → get_or first' k 0 ≡ get_or first k 0
  pub high : (k : ℕ) → k < d → get_or first' (p + k) 0 ≡ min (get_or first k 0) v
