-- In which round a limit is passed.
use Rattle.std.specs.Prelude.{◌≡◌, true, false, List, ℕ, ◌-◌}
use Rattle.fixpoint.specs.Iterate.{iterate}
use Rattle.fixpoint.specs.Run.{within}
use Rattle.fixpoint.specs.Leads.{PassesIn}
use Rattle.network.specs.declared.Network.{Network}
use Rattle.rounds.specs.Propagate.{propagate}
use Rattle.rounds.specs.Cap.{cap}
use Rattle.rounds.specs.Rounds.{held}

-- the rounds from low have passed a limit by round q, and those from high not before it if high is within the limits
pub record Closing (Γ : Network) (low high : List ℕ) (q : ℕ) : Type 0 where
  pub out : within (cap Γ) (iterate q (propagate Γ) (held Γ low)) ≡ false
  pub inside : within (cap Γ) (held Γ high) ≡ true
      → within (cap Γ) (iterate (q - 1) (propagate Γ) (held Γ high)) ≡ true

-- every run from t passes a limit in round r
pub record Passing (Γ : Network) (r : ℕ) (t : List ℕ) : Type 0 where
  pub on : PassesIn (propagate Γ) (cap Γ) r (held Γ t)
