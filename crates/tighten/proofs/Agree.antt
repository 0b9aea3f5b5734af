-- Networks that agree in all but names, letters and rules: the same events happen in the same scenarios, and of one
-- table both say the same, of each time and of what is known when. Assumes nothing.
use mathlib.Core.Path.{◌≡◌, sym, ◌∙◌, ap, ap₂}
use mathlib.Core.Bool.{Bool, ◌&&◌}
use mathlib.Core.List.{List}
use Prim.Native.Nat.{ℕ, ◌^◌, ◌<◌}
use native.Mathlib.Omega.{arith}
use lib.Dec.{leb}
use Rattle.network.specs.Build.{observation, event_label, scenarios, cells}
use Rattle.network.specs.Scenario.{satisfies}
use Rattle.network.specs.Happens.{happens, given}
use Rattle.network.specs.Strategy.{time, reaction, known_from, known}
use Rattle.network.specs.declared.Network.{Network}
use Rattle.network.proofs.Least.{SameEvents}

-- Γ and Δ may differ in names, letters and rules only, and in whether what holds without a line has one: a reaction of
-- 1, a label `-`
pub record Agree (Γ Δ : Network) : Type 0 where
  pub horizon : Γ.horizon ≡ Δ.horizon
  pub events : Γ.events ≡ Δ.events
  pub signals : Γ.signals ≡ Δ.signals
  pub observations : (p : ℕ) → p < Γ.signals → observation Γ p ≡ observation Δ p
  pub reactions : (p : ℕ) → p < Γ.signals → reaction Γ p ≡ reaction Δ p
  pub labels : (u : ℕ) → event_label Γ u ≡ event_label Δ u

pub agree-sym : {Γ Δ : Network} → Agree Γ Δ → Agree Δ Γ
agree-sym a = record {
  horizon = sym a.horizon;
  events = sym a.events;
  signals = sym a.signals;
  observations = λ p h. sym (a.observations p (omega (arith, a.signals)));
  reactions = λ p h. sym (a.reactions p (omega (arith, a.signals)));
  labels = λ u. sym (a.labels u);
}

module _ {Γ Δ : Network} (a : Agree Γ Δ) where
  pub scenarios-agree : scenarios Γ ≡ scenarios Δ
  scenarios-agree = ap (λ (k : ℕ). 2 ^ k) a.signals

  pub cells_agree : cells Γ ≡ cells Δ
  cells_agree = rw (a.events, a.signals)

  pub happens-agree : (s u : ℕ) → happens Γ s u ≡ happens Δ s u
  unfolding happens
  happens-agree s u = ap (satisfies s) (a.labels u)

  pub same-events : SameEvents Γ Δ
  same-events = record { events = a.events; signals = a.signals; happen = happens-agree }

  pub given-agree : (s p : ℕ) → p < Γ.signals → given Γ s p ≡ given Δ s p
  given-agree s p h = ap (happens Γ s) (a.observations p h) ∙ happens-agree s (observation Δ p)

  module _ (σ : List ℕ) where
    pub time-agree : (s u : ℕ) → time Γ.events σ s u ≡ time Δ.events σ s u
    time-agree s u = ap (λ (n : ℕ). time n σ s u) a.events

    pub known_from-agree : (s p : ℕ) → p < Γ.signals → known_from Γ σ s p ≡ known_from Δ σ s p
    known_from-agree s p h = rw (a.reactions p h, a.events, a.observations p h)

    pub known-agree : (s p m : ℕ) → p < Γ.signals → known Γ σ s p m ≡ known Δ σ s p m
    known-agree s p m h =
        ap₂ (λ (g : Bool) (k : ℕ). g && leb k m) (given-agree s p h) (known_from-agree s p h)
