-- Labels that lack no part of the labels of the events whose signals they use (02, point 6, refusals 20 and 21; 004,
-- Definition 2: well-definedness, WD1 to WD3). Told of the network, and of no reader.
use Rattle.std.specs.Prelude.{◌≡◌, true, ℕ, ◌<◌}
use Rattle.network.specs.Build.{no_label, observation, event_label, constraint}
use Rattle.network.specs.Scenario.{truth}
use Rattle.network.specs.Happens.{mentions}
use Rattle.network.specs.declared.Label.{Label}
use Rattle.network.specs.declared.Network.{Network}

-- the label ℓ has each part of κ: each of its letters, with its sign
pub record Includes (ℓ κ : Label) : Type 0 where
  pub positive : (q : ℕ) → truth κ.positive q ≡ true → truth ℓ.positive q ≡ true
  pub negative : (q : ℕ) → truth κ.negative q ≡ true → truth ℓ.negative q ≡ true

module _ (Γ : Network) where
  -- the label lacks no "part of the label of an event whose signal it uses"
  pub record Complete (ℓ : Label) : Type 0 where
    pub includes : (p : ℕ) → p < Γ.signals → mentions ℓ p ≡ true → Includes ℓ (event_label Γ (observation Γ p))

  -- no 21, of an event's label or a rule's
  pub record AllComplete : Type 0 where
    pub event : (u : ℕ) → u < Γ.events → Complete (event_label Γ u)
    pub rule : (c : ℕ) → c < Γ.rules → Complete (constraint Γ c).label

  -- no 20, "the start is given a label other than `-`", and no 21
  pub record WellLabelled : Type 0 where
    pub start : event_label Γ 0 ≡ no_label
    pub complete : AllComplete
