-- No difference between two strategies grows by what a round asks: times that are at most e later ask for times that
-- are at most e later. Assumes nothing.
use mathlib.Core.Bool.{cond}
use mathlib.Core.List.{List}
use Prim.Native.Nat.{ℕ, ◌+◌, ◌*◌, ◌≤◌}
use native.Mathlib.Omega.{arith}
use lib.Dec.{eqb}
use Rattle.prelude.proofs.Bounded.{max_below-near}
use Rattle.prelude.proofs.Minima.{min_where-near}
use Rattle.fixpoint.specs.Near.{Over}
use Rattle.network.specs.Build.{observation, event_label, constraint, scenarios}
use Rattle.network.specs.Happens.{mentions, happens, tells}
use Rattle.network.specs.Constraint.{covers}
use Rattle.network.specs.Strategy.{known_from}
use Rattle.network.specs.declared.Kind.{Kind}
use Rattle.network.specs.declared.Kind.TheVariants.{Max, Min}
use Rattle.network.specs.declared.Constraint.{Constraint}
use Rattle.network.specs.declared.Network.{Network}
use Rattle.rounds.specs.Propagate.{bound_by_kind, constraint_bound, hyperarc, raised, greatest_bound}
use Rattle.rounds.proofs.Bounds.{least_from-near, least_to-near, either_near, cond-near}

-- what the constraint of a number asks, what the wait of u for one signal does, and the hyperarc to one scenario
abbrev pub asks : Network → List ℕ → ℕ → ℕ → ℕ → ℕ
asks Γ σ s u c = constraint_bound Γ σ s u (constraint Γ c)

abbrev pub wait_for : Network → List ℕ → ℕ → ℕ → ℕ → ℕ
wait_for Γ σ s u p = cond (mentions (event_label Γ u) p) (known_from Γ σ s p) 0

abbrev pub arc_to : Network → List ℕ → ℕ → ℕ → ℕ → ℕ
arc_to Γ σ s u r = cond (happens Γ r u) (hyperarc Γ σ s r u) 0

-- each bound is a time and a number, or the least of such, and a time is the greatest of its bounds
module _ (Γ : Network) (e : ℕ) (σ τ : List ℕ) (o : Over e τ σ) (s : ℕ) where
  by_kind-near : (u : ℕ) (c : Constraint) (k : Kind) → bound_by_kind Γ σ k s u c ≤ bound_by_kind Γ τ k s u c + e
  by_kind-near u c Max =
      cond-near e (eqb c.from u) _ _ (least_from-near e _ _ c.bound (o.at (s * Γ.events + c.to)))
  by_kind-near u c Min =
      cond-near e (eqb c.to u) _ _ (least_to-near e _ _ c.bound (o.at (s * Γ.events + c.from)))

  asks-near : (u c : ℕ) → asks Γ σ s u c ≤ asks Γ τ s u c + e
  asks-near u c =
      let r = constraint Γ c in
      cond-near e (covers Γ r s) _ _ (by_kind-near u r r.kind)

  known-near : (p : ℕ) → known_from Γ σ s p ≤ known_from Γ τ s p + e
  known-near p = omega (arith, o.at (s * Γ.events + observation Γ p))

  hyperarc-near : (r u : ℕ) → hyperarc Γ σ s r u ≤ hyperarc Γ τ s r u + e
  hyperarc-near r u =
      min_where-near (tells Γ s r) (known_from Γ σ s) (known_from Γ τ s) _ _ e Γ.signals
      (o.at (r * Γ.events + u)) (λ p _ _. known-near p)

  greatest-near : (u : ℕ) → greatest_bound Γ σ s u ≤ greatest_bound Γ τ s u + e
  greatest-near u =
      omega (
        arith,
        o.at (s * Γ.events + u),
        max_below-near (asks Γ σ s u) (asks Γ τ s u) e Γ.rules (λ c _. asks-near u c),
        max_below-near (wait_for Γ σ s u) (wait_for Γ τ s u) e Γ.signals
            (λ p _. cond-near e (mentions (event_label Γ u) p) _ _ (known-near p)),
        max_below-near (arc_to Γ σ s u) (arc_to Γ τ s u) e (scenarios Γ)
            (λ r _. cond-near e (happens Γ r u) _ _ (hyperarc-near r u)),
      )

  pub raised-near : (u : ℕ) → raised Γ σ s u ≤ raised Γ τ s u + e
  raised-near u = either_near e (happens Γ s u) _ _ _ _ (greatest-near u) (o.at (s * Γ.events + u))
