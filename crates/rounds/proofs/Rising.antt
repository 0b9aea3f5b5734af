-- The round is a rising step on strategies of the network's size, under which no difference grows; and what it asks
-- no raise of keeps the constraints, the waits and the hyperarcs. Assumes nothing.
use mathlib.Core.Path.{◌≡◌}
use mathlib.Core.Logic.{inl, inr}
use mathlib.Core.Bool.{true, false}
use mathlib.Core.List.{List}
use Prim.Native.Nat.{ℕ, ◌+◌, ◌*◌, ◌≤◌, ◌<◌}
use native.Mathlib.Omega.{arith}
use lib.ListN.{length}
use Rattle.prelude.proofs.Tests.{either}
use Rattle.prelude.proofs.Bounded.{le_max_below, max_below_le}
use Rattle.fixpoint.specs.Order.{Below}
use Rattle.fixpoint.specs.Step.{Rising}
use Rattle.fixpoint.specs.Near.{Nonexpansive}
use Rattle.fixpoint.proofs.Iterate.{near-monotone}
use Rattle.network.specs.Build.{event_label, constraint, scenarios, cells}
use Rattle.network.specs.Happens.{mentions, happens}
use Rattle.network.specs.Strategy.{time}
use Rattle.network.specs.Solution.{Holds}
use Rattle.network.specs.WellFormed.{WellFormed}
use Rattle.network.specs.declared.Network.{Network}
use Rattle.network.proofs.Jointly.{covers_both}
use Rattle.rounds.specs.Propagate.{raised, greatest_bound, propagate}
use Rattle.rounds.specs.Hyperarcs.{Waiting, Hyperarcs}
use Rattle.rounds.proofs.Bounds.{cond_le, le_cond, bound_of_holds, holds_of_bound}
use Rattle.rounds.proofs.Near.{asks, wait_for, arc_to, raised-near}
use Rattle.rounds.proofs.ByCell.{length-propagate, time-propagate, over_by-cell, below-by-cell}

-- no difference grows in a round
pub nonexpansive : (Γ : Network) → Nonexpansive (cells Γ) (propagate Γ)
nonexpansive Γ = record {
  sized = λ σ _. length-propagate Γ σ;
  near = λ e τ σ _ _ o. over_by-cell Γ e (propagate Γ τ) (propagate Γ σ) (length-propagate Γ σ)
      (λ s u hs hu. omega (
        arith,
        time-propagate Γ σ s u hs hu,
        time-propagate Γ τ s u hs hu,
        raised-near Γ e σ τ o s u,
      ));
}

-- a cell is raised to the greatest bound where its event happens, and stays elsewhere
module _ (Γ : Network) (σ : List ℕ) (s u : ℕ) where
  pub raised-here : happens Γ s u ≡ true → raised Γ σ s u ≡ greatest_bound Γ σ s u
  raised-here e = rw e

  pub raised-absent : happens Γ s u ≡ false → raised Γ σ s u ≡ time Γ.events σ s u
  raised-absent e = rw e

  pub raised-up : time Γ.events σ s u ≤ raised Γ σ s u
  raised-up = elim (either (happens Γ s u)) [ inl e ↦ rw e (omega arith) | inr e ↦ rw e (omega arith) ]

pub rising : (Γ : Network) → Rising (cells Γ) (propagate Γ)
rising Γ = record {
  sized = λ σ _. length-propagate Γ σ;
  inflationary = λ σ l. below-by-cell Γ σ (propagate Γ σ) l
      (λ s u hs hu. omega (arith, time-propagate Γ σ s u hs hu, raised-up Γ σ s u));
  monotone = near-monotone (cells Γ) (propagate Γ) (nonexpansive Γ);
}

module _ (Γ : Network) (σ : List ℕ) where
  -- every constraint holds in every scenario
  pub record Viable : Type 0 where
    pub holds : (s c : ℕ) → s < scenarios Γ → c < Γ.rules → Holds Γ σ s (constraint Γ c)

  -- what keeps them, with waits and hyperarcs, asks no raise, and the other way round
  pub closed_of : length σ ≡ cells Γ → Viable → Waiting Γ σ → Hyperarcs Γ σ → Below (propagate Γ σ) σ
  closed_of l v w a = below-by-cell Γ (propagate Γ σ) σ (length-propagate Γ σ) (λ s u hs hu.
      elim (either (happens Γ s u)) [
        | inr e ↦ omega (arith, time-propagate Γ σ s u hs hu, raised-absent Γ σ s u e)
        | inl e ↦
            omega (
              arith,
              time-propagate Γ σ s u hs hu,
              raised-here Γ σ s u e,
              max_below_le (asks Γ σ s u) Γ.rules (time Γ.events σ s u)
                  (λ c hc. bound_of_holds Γ σ s (constraint Γ c) (v.holds s c hs hc) u),
              max_below_le (wait_for Γ σ s u) Γ.signals (time Γ.events σ s u) (λ p hp.
                  cond_le (mentions (event_label Γ u) p) _ _ (λ m. (w.waits s u hs hu e).waited p hp m)),
              max_below_le (arc_to Γ σ s u) (scenarios Γ) (time Γ.events σ s u) (λ r hr.
                  cond_le (happens Γ r u) _ _ (λ m. a.kept s r u hs hr hu e m)),
            )
      ])

  module _ (W : WellFormed Γ) (closed : Below (propagate Γ σ) σ) where
    -- what is asked of an event that happens
    greatest_le : (s u : ℕ) → s < scenarios Γ → u < Γ.events → happens Γ s u ≡ true
        → greatest_bound Γ σ s u ≤ time Γ.events σ s u
    greatest_le s u hs hu e =
        omega (arith, time-propagate Γ σ s u hs hu, raised-here Γ σ s u e, closed.at (s * Γ.events + u))

    pub viable_of : Viable
    viable_of = record {
      holds = λ s c hs hc. record {
        holds = λ e.
            let r = constraint Γ c in
            let proper = W.proper c hc in
            let both = covers_both Γ r s e in
            (holds_of_bound Γ σ s r
            (omega (
              arith,
              greatest_le s r.from hs proper.from both.0,
              le_max_below (asks Γ σ s r.from) Γ.rules c hc,
            ))
            (omega (
              arith,
              greatest_le s r.to hs proper.to both.1,
              le_max_below (asks Γ σ s r.to) Γ.rules c hc,
            ))).holds e;
      };
    }

    pub waiting_of : Waiting Γ σ
    waiting_of = record {
      waits = λ s u hs hu e. record {
        waited = λ p hp m.
            le_cond (mentions (event_label Γ u) p) _ _ m
            (omega (arith, greatest_le s u hs hu e, le_max_below (wait_for Γ σ s u) Γ.signals p hp));
      };
    }

    pub hyperarcs_of : Hyperarcs Γ σ
    hyperarcs_of = record {
      kept = λ s r u hs hr hu here there.
          le_cond (happens Γ r u) _ _ there
          (omega (arith, greatest_le s u hs hu here, le_max_below (arc_to Γ σ s u) (scenarios Γ) r hr));
    }
