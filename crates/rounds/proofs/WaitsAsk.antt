-- What all waits ask of an event is what its own label does; behind the events neither they nor the constraints ask
-- anything. Assumes nothing.
use mathlib.Core.Path.{◌≡◌, refl}
use mathlib.Core.Logic.{inl, inr}
use mathlib.Core.Bool.{Bool, true, false, cond}
use mathlib.Core.List.{List}
use Prim.Native.Nat.{ℕ, ◌≤◌, ◌<◌}
use native.Mathlib.Omega.{arith}
use borrow.Author.Tests.{eqb-true, eqb-false, eq-eqb, ne_eqb}
use lib.Dec.{eqb}
use Rattle.prelude.specs.Bounded.{max_below}
use Rattle.prelude.proofs.Tests.{either}
use Rattle.prelude.proofs.Bounded.{le_max_below, max_below_le}
use Rattle.network.specs.Build.{event_label, constraint}
use Rattle.network.specs.Constraint.{covers}
use Rattle.network.specs.Happens.{mentions, happens}
use Rattle.network.specs.Strategy.{known_from}
use Rattle.network.specs.WellFormed.{Proper, WellFormed}
use Rattle.network.specs.declared.Kind.{Kind}
use Rattle.network.specs.declared.Kind.TheVariants.{Max, Min}
use Rattle.network.specs.declared.Constraint.{Constraint}
use Rattle.network.specs.declared.Network.{Network}
use Rattle.rounds.specs.Propagate.{bound_by_kind, constraints_bound, waits_bound}
use Rattle.rounds.specs.Compiled.{wait_asks}
use Rattle.rounds.proofs.Bounds.{cond_le}
use Rattle.rounds.proofs.Maxima.{max_below_ext, max_below-zero}

-- the waits of other events ask nothing of u, and its own ask what its label does
module _ (Γ : Network) (σ : List ℕ) (s u : ℕ) where
  others : (w : ℕ) → (w ≡ u → ⊥) → wait_asks Γ σ s u w Γ.signals ≡ 0
  others w n =
      let none : wait_asks Γ σ s u w Γ.signals ≤ 0 =
      max_below_le _ Γ.signals 0 (λ p _.
      cond_le (mentions (event_label Γ w) p) _ 0 (λ _.
      cond_le (happens Γ s w) _ 0 (λ _. cond_le (eqb w u) _ 0 (λ e. absurd (n (eqb-true w u e)))))) in
      omega (arith, none)

  own : happens Γ s u ≡ true → wait_asks Γ σ s u u Γ.signals ≡ waits_bound Γ σ s u
  own e = max_below_ext _ _ Γ.signals (λ p _. rw (e, eq-eqb u u refl))

  pub waits-are : u < Γ.events → happens Γ s u ≡ true
      → max_below Γ.events (λ w. wait_asks Γ σ s u w Γ.signals) ≡ waits_bound Γ σ s u
  waits-are hu e =
      let up = max_below_le (λ w. wait_asks Γ σ s u w Γ.signals) Γ.events (waits_bound Γ σ s u) (λ w _.
      elim (either (eqb w u)) [
        | inl q ↦ rw (eqb-true w u q) (omega (arith, own e))
        | inr q ↦ omega (arith, others w (eqb-false w u q))
      ]) in
      omega (arith, own e, up, le_max_below (λ w. wait_asks Γ σ s u w Γ.signals) Γ.events u hu)

  pub unlabelled-waits : ((p : ℕ) → mentions (event_label Γ u) p ≡ false) → waits_bound Γ σ s u ≡ 0
  unlabelled-waits n = omega (
    arith,
    max_below_le (λ p. cond (mentions (event_label Γ u) p) (known_from Γ σ s p) 0) Γ.signals 0
        (λ p _. rw (n p) (omega arith)),
  )

-- behind the events neither the constraints nor the waits ask anything
module _ {Γ : Network} (W : WellFormed Γ) (σ : List ℕ) (s u : ℕ) (h : Γ.events ≤ u) where
  by_kind-beyond : (c : Constraint) → Proper Γ c → (k : Kind) → bound_by_kind Γ σ k s u c ≡ 0
  by_kind-beyond c p Max = rw (ne_eqb c.from u (λ e. omega (arith, p.from)))
  by_kind-beyond c p Min = rw (ne_eqb c.to u (λ e. omega (arith, p.to)))

  pub constraints-beyond : constraints_bound Γ σ s u ≡ 0
  constraints-beyond = max_below-zero Γ.rules _ (λ i l.
      let c = constraint Γ i in
      rw (by_kind-beyond c (W.proper i l) c.kind) (none (covers Γ c s))) where
        none : (t : Bool) → ◌≡◌ {A = ℕ} (cond t 0 0) 0
        none true = refl
        none false = refl

  pub waits-beyond : max_below Γ.events (λ w. wait_asks Γ σ s u w Γ.signals) ≡ 0
  waits-beyond = max_below-zero Γ.events _ (λ w l. others Γ σ s u w (λ e. omega arith))
