-- Where rounds from a table lead.
use Rattle.std.specs.Prelude.{◌≡◌, ◌≢◌, ◌⊎◌, true, List, ℕ, ◌*◌, ◌<◌, get_or}
use Rattle.fixpoint.specs.Iterate.{iterate}
use Rattle.fixpoint.specs.Run.{within}
use Rattle.fixpoint.specs.Straight.{moved}
use Rattle.fixpoint.specs.Leads.{Leads}
use Rattle.network.specs.Build.{scenarios}
use Rattle.network.specs.declared.Network.{Network}
use Rattle.rows.specs.Rows.{Times}
use Rattle.rounds.specs.Propagate.{propagate}
use Rattle.rounds.specs.Cap.{cap}
use Rattle.rounds.specs.Rounds.{held, effect_of}
use Rattle.rounds.specs.declared.Effect.TheVariants.{Rises}
use Rattle.moves.specs.Moves.{part_of, Placed, TooFar}

module _ (Γ : Network) where
  -- p rounds lead from t to u, and rounds may go on from u
  pub record Advanced (p : ℕ) (t u : List ℕ) : Type 0 where
    pub times : Times Γ u
    pub led : Leads (propagate Γ) (cap Γ) p (held Γ t) (held Γ u)

  -- one of the first p rounds from t raises nothing, or takes a time over its limit
  pub record Halted (p : ℕ) (t : List ℕ) : Type 0 where
    pub made : ℕ
    pub fewer : made < p
    pub table : List ℕ
    pub led : Advanced made t table
    pub stops : effect_of Γ (held Γ table) ≢ Rises

  -- p rounds make o of t moved on j times by the part of d between lo and hi, within the limits
  pub record Far (p j : ℕ) (t d : List ℕ) (lo hi : ℕ) (o : List ℕ) : Type 0 where
    pub times : Times Γ o
    pub made : held Γ o ≡ iterate p (propagate Γ) (moved (held Γ t) j (λ i. part_of lo hi (get_or (held Γ d) i 0)))
    pub inside : within (cap Γ) (held Γ o) ≡ true

  -- t so moved on is past a limit, or one of p rounds from it raises nothing or passes one
  abbrev pub NoneFar : ℕ → ℕ → List ℕ → List ℕ → ℕ → ℕ → Type 0
  NoneFar p j t d lo hi =
      TooFar t d lo hi j Γ.horizon (scenarios Γ * 16)
      ⊎ ((o : List ℕ) × Placed t d lo hi j Γ.horizon (scenarios Γ * 16) o × Halted p o)
