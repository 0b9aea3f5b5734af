-- Where the rounds from between two far tables end. Assumes nothing.
use mathlib.Core.Path.{◌≡◌, ◌∙◌, ap}
use mathlib.Core.Bool.{true, false}
use mathlib.Core.List.{List}
use Prim.Native.Nat.{ℕ, suc, ◌+◌, ◌-◌, ◌*◌, ◌<◌, ◌≤◌}
use native.Mathlib.Numerals.{add-one}
use native.Mathlib.Omega.{arith}
use lib.ListN.{length, get_or}
use Rattle.fixpoint.specs.Order.{Below}
use Rattle.fixpoint.specs.Iterate.{iterate}
use Rattle.fixpoint.specs.Run.{within}
use Rattle.fixpoint.specs.Straight.{moved, AtMost, AtLeast}
use Rattle.fixpoint.proofs.Iterate.{iterate-add, iterate-mul, iterate_nonexpansive}
use Rattle.fixpoint.proofs.Moved.{length_moved}
use Rattle.fixpoint.proofs.Straight.{at_most, at_least}
use Rattle.fixpoint.proofs.Leap.{passes-between}
use Rattle.network.specs.declared.Network.{Network}
use Rattle.rows.specs.Rows.{Times}
use Rattle.rounds.specs.declared.Effect.TheVariants.{Passes}
use Rattle.rounds.specs.Propagate.{propagate}
use Rattle.rounds.specs.Cap.{cap}
use Rattle.rounds.specs.Rounds.{held, Rounded}
use Rattle.rounds.proofs.Effects.{length-held, step_rises, step_near, round-out}
use Rattle.leap.specs.Tables.{Advanced, Far}
use Rattle.leap.specs.Passing.{Closing, Passing}
use Rattle.leap.proofs.Tables.{moved-whole}

-- t moved on j times by x
abbrev to : Network → List ℕ → ℕ → List ℕ → List ℕ
to Γ t j x = moved (held Γ t) j (λ i. get_or (held Γ x) i 0)

module _ {Γ : Network} where
  -- the round after q others passes a limit
  pub closing_of : {low high a b c : List ℕ} {q : ℕ} → Advanced Γ q low a → Advanced Γ q high b → Rounded Γ a c Passes
      → Closing Γ low high (q + 1)
  closing_of {q = q} A B R =
      let e : q + 1 - 1 ≡ q = omega arith in
      record {
        out = rw (add-one, ← A.led.made) (round-out Γ R);
        inside = λ h. rw (e, ← B.led.made) (B.led.inside h);
      }

  module _ (few : Γ.events ≤ 16) where
    -- p rounds from there
    far-whole : (t x : List ℕ) (j p : ℕ) {o : List ℕ} → Times Γ x → Far Γ p j t x 0 10080 o
        → held Γ o ≡ iterate p (propagate Γ) (to Γ t j x)
    far-whole t x j p X F = F.made ∙ ap (iterate p (propagate Γ)) (moved-whole few t x j X)

    pub passing-of : (t d e low high : List ℕ) (j p q : ℕ) → Times Γ d → Times Γ e
        → AtMost (iterate p (propagate Γ)) (held Γ t) (held Γ d) j
        → AtLeast (iterate p (propagate Γ)) (held Γ t) (held Γ e) j
        → Far Γ p j t d 0 10080 high → Far Γ p j t e 0 10080 low
        → Closing Γ low high q → 0 < q → Passing Γ (j * p + (p + q)) t
    passing-of t d e low high j p q D E M L H F K h = record {
      on =
          let step = propagate Γ in
          let N = iterate_nonexpansive (length (cap Γ)) step (step_near Γ) p in
          let sized : (x : List ℕ) → length (to Γ t j x) ≡ length (cap Γ) =
          λ x. length_moved (held Γ t) j (λ i. get_or (held Γ x) i 0) ∙ length-held Γ t in
          let above : Below (to Γ t j e) (iterate (j * p) step (held Γ t)) =
          rw (iterate-mul step j p (held Γ t))
          (at_least (length (cap Γ)) (iterate p step) N (held Γ t) (held Γ e) (length-held Γ t) j L j
          (omega arith)) in
          let below : Below (iterate (j * p) step (held Γ t)) (to Γ t j d) =
          rw (iterate-mul step j p (held Γ t))
          (at_most (length (cap Γ)) (iterate p step) N (held Γ t) (held Γ d) (length-held Γ t) j M j
          (omega arith)) in
          let in_cap : within (cap Γ) (iterate (p + (q - 1)) step (to Γ t j d)) ≡ true =
          rw (iterate-add step p (q - 1) (to Γ t j d), ← far-whole t d j p D H) (K.inside H.inside) in
          let out : within (cap Γ) (iterate (p + q) step (to Γ t j e)) ≡ false =
          rw (iterate-add step p q (to Γ t j e), ← far-whole t e j p E F) K.out in
          let one : p + q ≡ suc (p + (q - 1)) = omega arith in
          rw one (passes-between step (cap Γ) (step_rises Γ) (step_near Γ) (held Γ t) (length-held Γ t) (to Γ t j e)
          (to Γ t j d) (sized e) (sized d)
          (j * p) (p + (q - 1)) above below in_cap (rw one at out));
    }
