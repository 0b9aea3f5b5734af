-- What the limits of a network give the code's parts: there are 16 scenarios at most, and every label is of four
-- propositions. Assumes nothing.
use Prim.Native.Nat.{ℕ, ◌≤◌, ◌<◌}
use native.Mathlib.Omega.{arith}
use lib.Pow.{pow_mono}
use Rattle.network.specs.Build.{event_label, constraint, scenarios}
use Rattle.network.specs.Joint.{joint}
use Rattle.network.specs.WellFormed.{FewLetters, Lettered, WellFormed}
use Rattle.network.specs.declared.Label.{Label}
use Rattle.network.specs.declared.Network.{Network}
use Rattle.network.proofs.Jointly.{joint-lettered}

module _ {Γ : Network} (W : WellFormed Γ) where
  few-scenarios : scenarios Γ ≤ 16
  few-scenarios = pow_mono {i = Γ.signals} {j = 4} W.signals

  pub scenario_lt : (s : ℕ) → s < scenarios Γ → s < 16
  scenario_lt s l = omega (arith, few-scenarios)

  of_four : {ℓ : Label} → Lettered Γ ℓ → FewLetters ℓ
  of_four l = record { positive = scenario_lt _ l.positive; negative = scenario_lt _ l.negative }

  pub event-letters : (u : ℕ) → FewLetters (event_label Γ u)
  event-letters u = of_four (W.lettered u)

  pub joint-letters : (c : ℕ) → c < Γ.rules → FewLetters (joint Γ (constraint Γ c))
  joint-letters c h = of_four (joint-lettered Γ (constraint Γ c) (W.proper c h).label W.lettered)
