-- Tables as the rounds keep them: a row of sixteen times for each scenario, of which the first n are those of the n
-- events.
use Rattle.std.specs.Prelude.{◌≡◌, false, cond, ◌⊎◌, List, ℕ, ◌+◌, ◌*◌, ◌/◌, ◌%◌, ◌≤◌, ◌<◌, length, get_or}
use Rattle.std.specs.Prelude.{take, drop}
use Rattle.prelude.specs.Bounded.{tabulate}
use Rattle.network.specs.Limits as L
use Rattle.network.specs.Build.{scenarios, cells}
use Rattle.network.specs.Happens.{happens}
use Rattle.network.specs.Strategy.{time}
use Rattle.network.specs.declared.Network.{Network}

-- the strategy that a table holds: n events in c scenarios, without gaps
unfoldable pub gapless : ℕ → ℕ → List ℕ → List ℕ
gapless n c t = tabulate (n * c) (λ i. get_or t (i / n * 16 + i % n) 0)

-- the same as it is handed out: with a blank in each cell without its event
unfoldable pub handed : Network → List ℕ → List ℕ
handed Γ t =
    let n = Γ.events in
    tabulate (cells Γ) (λ i. cond (happens Γ (i / n) (i % n)) (get_or t (i / n * 16 + i % n) 0) L.blank)

-- the row of scenario s
abbrev pub row_of : List ℕ → ℕ → List ℕ
row_of t s = take 16 (drop (s * 16) t)

-- row has the times of scenario s in σ
pub record RowIn (Γ : Network) (σ : List ℕ) (s : ℕ) (row : List ℕ) : Type 0 where
  pub at : (u : ℕ) → u < Γ.events → get_or row u 0 ≡ time Γ.events σ s u

-- sixteen numbers
pub record Sixteen (xs : List ℕ) (f : ℕ → ℕ) : Type 0 where
  pub sized : length xs ≡ 16
  pub is : (u : ℕ) → u < 16 → get_or xs u 0 ≡ f u

-- each of sixteen numbers is at most m
abbrev pub Few : ℕ → List ℕ → Type 0
Few m xs = (u : ℕ) → u < 16 → get_or xs u 0 ≤ m

-- what a round is given: times that a horizon may allow, and zeros behind the events and where an event does not happen
pub record Times (Γ : Network) (t : List ℕ) : Type 0 where
  pub sized : length t ≡ 256
  pub few : (s u : ℕ) → s < scenarios Γ → u < 16 → get_or t (s * 16 + u) 0 ≤ L.horizon
  pub beyond : (s u : ℕ) → s < scenarios Γ → Γ.events ≤ u → u < 16 → get_or t (s * 16 + u) 0 ≡ 0
  pub absent : (s u : ℕ) → s < scenarios Γ → u < 16 → happens Γ s u ≡ false → get_or t (s * 16 + u) 0 ≡ 0

-- n numbers are written from place a on, and the rest is unaltered
pub record Wrote (o o' : List ℕ) (a n : ℕ) (f : ℕ → ℕ) : Type 0 where
  pub sized : length o' ≡ length o
  pub here : (u : ℕ) → u < n → get_or o' (a + u) 0 ≡ f u
  pub other : (i : ℕ) → i < a ⊎ a + n ≤ i → get_or o' i 0 ≡ get_or o i 0
