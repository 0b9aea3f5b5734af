-- The leap: a table that is placed where p rounds, j times, are seen to lead. Assumes nothing.
use mathlib.Core.Path.{◌≡◌, ◌∙◌}
use mathlib.Core.List.{List}
use Prim.Native.Nat.{ℕ, ◌*◌, ◌≤◌}
use native.Mathlib.Omega.{arith}
use lib.ListN.{get_or}
use Rattle.fixpoint.specs.Iterate.{iterate}
use Rattle.fixpoint.specs.Straight.{moved, AtMost, AtLeast}
use Rattle.fixpoint.proofs.Leap.{leads_leap}
use Rattle.network.specs.Build.{scenarios}
use Rattle.network.specs.declared.Network.{Network}
use Rattle.rows.specs.Rows.{Times}
use Rattle.rows.proofs.Gapless.{length-gapless}
use Rattle.rounds.specs.Propagate.{propagate}
use Rattle.rounds.specs.Cap.{cap}
use Rattle.rounds.specs.Rounds.{held}
use Rattle.rounds.proofs.Effects.{length-held, step_rises, step_near}
use Rattle.moves.specs.Moves.{Placed}
use Rattle.moves.specs.Levels.{SomeRise}
use Rattle.leap.specs.Tables.{Advanced}
use Rattle.leap.proofs.Strategies.{held_moved, placed-within, some-cell}
use Rattle.leap.proofs.Tables.{moved-whole}

module _ {Γ : Network} where
  pub advanced_hop : {t d o : List ℕ} {lo hi : ℕ} (p j : ℕ) → Γ.events ≤ 16 → Times Γ d → SomeRise d (scenarios Γ * 16)
      → (lo ≡ 0) × (hi ≡ 10080) → Times Γ o × Placed t d lo hi j Γ.horizon (scenarios Γ * 16) o
      → AtMost (iterate p (propagate Γ)) (held Γ t) (held Γ d) j
      → AtLeast (iterate p (propagate Γ)) (held Γ t) (held Γ d) j → Advanced Γ (j * p) t o
  advanced_hop {t} {d} {o} p j few D S e O M L =
      let P : Placed t d 0 10080 j Γ.horizon (scenarios Γ * 16) o = rw (e.0, e.1) at O.1 in
      let here : held Γ o ≡ moved (held Γ t) j (λ i. get_or (held Γ d) i 0) =
      held_moved Γ few P ∙ moved-whole few t d j D in
      let w = some-cell Γ few D S in
      let led = leads_leap (propagate Γ) (cap Γ) (step_rises Γ) (step_near Γ) (held Γ t) (length-held Γ t)
      (held Γ d) p j M L (rw here at (placed-within Γ few O.0 P))
      w.0 (omega (arith, w.1, length-gapless Γ.events (scenarios Γ) t)) w.2 in
      record { times = O.0; led = rw (← here) at led }
