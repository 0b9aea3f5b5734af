-- Execution strategies (004, Definition 6): a time for each event in each scenario. Document 01 calls one a table,
-- its times minutes.
use Rattle.std.specs.Prelude.{Bool, ◌&&◌, cond, List, ℕ, ◌+◌, ◌*◌, max, leb, get_or, Option, Some, None}
use Rattle.prelude.specs.Bounded.{min_where}
use Rattle.network.specs.Limits as L
use Rattle.network.specs.Build.{observation, reaction_stated}
use Rattle.network.specs.Happens.{given, tells}
use Rattle.network.specs.declared.Network.{Network}

-- the time of event u in scenario s, of n events: "case 0 first, events in sheet order". It is a number whether the
-- event happens or not: who reads it asks first where that matters
abbrev pub time : ℕ → List ℕ → ℕ → ℕ → ℕ
time n σ s u = get_or σ (s * n + u) 0

-- from when on what event u tells is known in s, where it is trusted after x minutes
abbrev pub known_after_lem : ℕ → List ℕ → ℕ → ℕ → ℕ → ℕ
known_after_lem n σ s u x = time n σ s u + x

-- what a line states is at least 1, and "A signal without a line keeps 1" (02, point 3)
unfoldable pub reaction_of_lem : ℕ → ℕ
reaction_of_lem stated = max L.fastest stated

-- after how many minutes p is known: its reaction time (004, Definition 13)
abbrev pub reaction : Network → ℕ → ℕ
reaction Γ p = reaction_of_lem (reaction_stated Γ p)

module _ (Γ : Network) (σ : List ℕ) where
  -- from when on the truth of p is known in s: "its minute plus its reaction"
  abbrev pub known_from : ℕ → ℕ → ℕ
  known_from s p = known_after_lem Γ.events σ s (observation Γ p) (reaction Γ p)

  -- that time, where p is given in s
  abbrev pub given_from : ℕ → ℕ → Option ℕ
  given_from s p = cond (given Γ s p) (Some (known_from s p)) None

  -- whether it is known at the time m: it is given in s, and "counts once its minute plus its reaction is at most the
  -- minute in question" (02, points 6 and 3); document 01 says heard
  abbrev pub known : ℕ → ℕ → ℕ → Bool
  known s p m = given Γ s p && leb (known_from s p) m

  -- the least of m and the times from which on, in s, one of the k first propositions is known that tells s from r
  abbrev pub least_known_lem : ℕ → ℕ → ℕ → ℕ → ℕ
  least_known_lem s r m k = min_where k (tells Γ s r) (known_from s) m
