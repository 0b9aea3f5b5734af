-- Point 3 over a whole strategy, and the hyperarcs over it (004, Lemma 1 and Definition 16): "that the two agree is
-- to be proved, and the meaning is point 3" (01, Cases and good tables). Since 02, point 6, they agree where events
-- wait for the signals of their labels.
use Rattle.std.specs.Prelude.{◌≡◌, true, List, ℕ, ◌≤◌, ◌<◌}
use Rattle.network.specs.Build.{scenarios}
use Rattle.network.specs.Happens.{happens}
use Rattle.network.specs.Strategy.{time}
use Rattle.network.specs.Solution.{Waits, Alike}
use Rattle.network.specs.declared.Network.{Network}
use Rattle.rounds.specs.Propagate.{hyperarc}

module _ (Γ : Network) (σ : List ℕ) where
  pub record Dynamic : Type 0 where
    pub alike : (s r u : ℕ) → s < scenarios Γ → r < scenarios Γ → u < Γ.events → Alike Γ σ s r u

  -- every event that happens waits for the signals of its label
  pub record Waiting : Type 0 where
    pub waits : (s u : ℕ) → s < scenarios Γ → u < Γ.events → happens Γ s u ≡ true → Waits Γ σ s u

  -- "a minute is at least the lesser of the other case's minute and one more than the earliest differing signal in
  -- its own case"; since 02, point 3, each signal's reaction stands for the one, and since point 6 the event happens in
  -- both cases
  pub record Hyperarcs : Type 0 where
    pub kept : (s r u : ℕ) → s < scenarios Γ → r < scenarios Γ → u < Γ.events → happens Γ s u ≡ true
        → happens Γ r u ≡ true → hyperarc Γ σ s r u ≤ time Γ.events σ s u
