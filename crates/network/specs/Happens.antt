-- Events that only some scenarios have (02, point 6; 004, Definitions 2 and 5: event labels).
use Rattle.std.specs.Prelude.{Bool, ◌&&◌, ◌||◌, not, ℕ}
use Rattle.network.specs.Build.{observation, event_label}
use Rattle.network.specs.Scenario.{truth, agree, satisfies}
use Rattle.network.specs.declared.Label.{Label}
use Rattle.network.specs.declared.Network.{Network}

-- the letter of p stands in the label, with either sign
abbrev pub mentions : Label → ℕ → Bool
mentions ℓ p = truth ℓ.positive p || truth ℓ.negative p

module _ (Γ : Network) where
  -- "An event happens where its label holds"
  unfoldable pub happens : ℕ → ℕ → Bool
  happens s u = satisfies s (event_label Γ u)

  -- the signal p is given in s: its event happens there
  abbrev pub given : ℕ → ℕ → Bool
  given s p = happens s (observation Γ p)

  -- p is given in s, and s and r differ on it: "counts only signals that are given in s" (004, Definition 10: the
  -- difference set)
  abbrev pub tells : ℕ → ℕ → ℕ → Bool
  tells s r p = given s p && not (agree s r p)
