-- What the code's own parts compute: the times from which on propositions are known, and what they say of an event or
-- of two scenarios.
use Rattle.std.specs.Prelude.{◌≡◌, Bool, ◌&&◌, ◌||◌, not, cond, List, ℕ, ◌<◌, eqb, leb, length, get_or}
use Rattle.prelude.specs.Bounded.{all_below, min_where}
use Rattle.network.specs.Limits as L
use Rattle.network.specs.Scenario.{agree}
use Rattle.network.specs.Happens.{mentions, given}
use Rattle.network.specs.Strategy.{known_from}
use Rattle.network.specs.declared.Label.{Label}
use Rattle.network.specs.declared.Network.{Network}

-- a time that no event has: one more than the largest of 16 bits
abbrev pub never : ℕ
never = 65536

-- from when on p is known in s; never, where it is not given there
abbrev pub known_or_never : Network → List ℕ → ℕ → ℕ → ℕ
known_or_never Γ σ s p = cond (given Γ s p) (known_from Γ σ s p) never

-- ts has the times from which on the k first propositions are known in s, and never for one that is not given there
pub record KnownIn (Γ : Network) (σ : List ℕ) (s k : ℕ) (ts : List ℕ) : Type 0 where
  pub four : length ts ≡ L.signals
  pub from : (p : ℕ) → p < k → get_or ts p 0 ≡ known_or_never Γ σ s p

-- the time t of event u is within the horizon h, and 0 for the start
abbrev pub on_time_lem : ℕ → ℕ → ℕ → Bool
on_time_lem h u t = leb t h && (not (eqb u 0) || eqb t 0)

module _ (ts : List ℕ) (k : ℕ) where
  -- the time t is not before any of the k propositions that the label uses is known, by the times ts
  abbrev pub waits : Label → ℕ → Bool
  waits ℓ t = all_below k (λ p. not (mentions ℓ p) || leb (get_or ts p 0) t)

  -- from when on s is told apart from r: the first of ts at the propositions on which they differ
  abbrev pub told_from : ℕ → ℕ → ℕ
  told_from s r = min_where k (λ p. not (agree s r p)) (λ p. get_or ts p 0) never
