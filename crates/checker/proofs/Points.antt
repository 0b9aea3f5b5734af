-- Each test of the verdict decides its point: it is true just where the point's record holds. Assumes nothing.
use mathlib.Core.Path.{◌≡◌, refl}
use mathlib.Core.Logic.{◌↔◌, inl, inr}
use mathlib.Core.Bool.{Bool, true, false, ◌&&◌, ◌||◌, not}
use mathlib.Core.List.{List}
use Prim.Native.Nat.{ℕ}
use borrow.Author.Tests.{leb-true, le-leb, eqb-true, eq-eqb, not-true}
use lib.Dec.{eqb, leb}
use Rattle.prelude.proofs.Tests.{either, clash, and-true, and_both, implied, implies}
use Rattle.prelude.proofs.Bounded.{true_of_all_below, all_below_true}
use Rattle.network.specs.Limits as L
use Rattle.network.specs.Build.{event_label}
use Rattle.network.specs.Scenario.{agree}
use Rattle.network.specs.Happens.{mentions, happens}
use Rattle.network.specs.Constraint.{covers, admits}
use Rattle.network.specs.Strategy.{time, known_from, known}
use Rattle.network.specs.Solution.{Waits, Placed, OnTime, Holds, Indistinct, Alike}
use Rattle.network.specs.declared.Constraint.{Constraint}
use Rattle.network.specs.declared.Network.{Network}
use Rattle.checker.specs.Verdict.{does_wait, is_placed, is_on_time, does_hold, is_indistinct, is_alike}

-- a disjunction of which the first part is false
pub or_false_iff : (a b : Bool) → (a || not b ≡ true) ↔ (a ≡ false → b ≡ false)
or_false_iff true b = (λ _ e. clash true refl e, λ _. refl)
or_false_iff false b = (λ e _. not-true b e, λ h. rw (h refl))

module _ (Γ : Network) (σ : List ℕ) where
  abbrev at : ℕ → ℕ → ℕ
  at s u = time Γ.events σ s u

  does_wait_iff : (s u : ℕ) → (does_wait Γ σ s u ≡ true) ↔ Waits Γ σ s u
  does_wait_iff s u =
      let asks : ℕ → Bool = mentions (event_label Γ u) in
      let comes : ℕ → Bool = λ p. leb (known_from Γ σ s p) (at s u) in
      let f : ℕ → Bool = λ p. not (asks p) || comes p in (
        λ e. record {
          waited = λ p l m. leb-true _ _ (implied (asks p) (comes p) (true_of_all_below f Γ.signals e p l) m);
        },
        λ h. all_below_true f Γ.signals (λ p l. implies (asks p) (comes p) (λ m. le-leb _ _ (h.waited p l m))),
      )

  is_placed_iff : (s u : ℕ) → (is_placed Γ σ s u ≡ true) ↔ Placed Γ σ s u
  is_placed_iff s u =
      let late = leb (at s u) Γ.horizon in
      let origin = not (eqb u 0) || eqb (at s u) 0 in
      let waits = does_wait Γ σ s u in (
        λ e.
            let p = and-true (late && origin) waits e in
            let q = and-true late origin p.0 in
            record {
              in_horizon = leb-true (at s u) Γ.horizon q.0;
              origin = λ z. eqb-true (at s u) 0 (implied (eqb u 0) (eqb (at s u) 0) q.1 (eq-eqb u 0 z));
              waits = (does_wait_iff s u).0 p.1;
            },
        λ h.
            and_both (late && origin) waits
            (and_both late origin (le-leb (at s u) Γ.horizon h.in_horizon)
            (implies (eqb u 0) (eqb (at s u) 0) λ e. eq-eqb (at s u) 0 (h.origin (eqb-true u 0 e))))
            ((does_wait_iff s u).1 h.waits),
      )

  pub is_on_time_iff : (s u : ℕ) → (is_on_time Γ σ s u ≡ true) ↔ OnTime Γ σ s u
  is_on_time_iff s u =
      elim (either (happens Γ s u)) [
        | inl here ↦ (
          λ e. record {
            absent = λ away. clash (happens Γ s u) here away;
            placed = λ _. (is_placed_iff s u).0 (rw here at e);
          },
          λ h. rw here ((is_placed_iff s u).1 (h.placed here)),
        )
        | inr away ↦ (
          λ e. record {
            absent = λ _. eqb-true (at s u) L.blank (rw away at e);
            placed = λ here. clash (happens Γ s u) here away;
          },
          λ h. rw away (eq-eqb (at s u) L.blank (h.absent away)),
        )
      ]

  pub does_hold_iff : (s : ℕ) (c : Constraint) → (does_hold Γ σ s c ≡ true) ↔ Holds Γ σ s c
  does_hold_iff s c =
      let admitted = admits c.kind (at s c.from) (at s c.to) c.bound in (
        λ e. record { holds = implied (covers Γ c s) admitted e },
        λ h. implies (covers Γ c s) admitted h.holds,
      )

  pub is_indistinct_iff : (s r u : ℕ) → (is_indistinct Γ σ s r u ≡ true) ↔ Indistinct Γ σ s r (time Γ.events σ s u)
  is_indistinct_iff s r u =
      let f : ℕ → Bool = λ p. agree s r p || not (known Γ σ s p (at s u)) in
      let each : (p : ℕ) → (f p ≡ true) ↔ (agree s r p ≡ false → known Γ σ s p (at s u) ≡ false) =
      λ p. or_false_iff (agree s r p) (known Γ σ s p (at s u)) in (
        λ e. record { unknown = λ p l. (each p).0 (true_of_all_below f Γ.signals e p l) },
        λ h. all_below_true f Γ.signals (λ p l. (each p).1 (h.unknown p l)),
      )

  pub is_alike_iff : (s r u : ℕ) → (is_alike Γ σ s r u ≡ true) ↔ Alike Γ σ s r u
  is_alike_iff s r u =
      let here = happens Γ s u in
      let there = happens Γ r u in
      let indistinct = is_indistinct Γ σ s r u in
      let same = eqb (at s u) (at r u) in
      let decides = is_indistinct_iff s r u in (
        λ e. record {
          alike = λ a b h.
              let compared = implied (here && there) (not indistinct || same) e (and_both here there a b) in
              eqb-true (at s u) (at r u) (implied indistinct same compared (decides.1 h));
        },
        λ h. implies (here && there) (not indistinct || same) (λ b.
            let w = and-true here there b in
            implies indistinct same λ e. eq-eqb (at s u) (at r u) (h.alike w.0 w.1 (decides.0 e))),
      )
