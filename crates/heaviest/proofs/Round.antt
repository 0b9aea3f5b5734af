-- One round of a negative cycle: from where its events are after i rounds it takes each to where it is after i + 1.
-- Assumes nothing.
use mathlib.Core.Path.{◌≡◌, refl, sym, ◌∙◌, ap}
use mathlib.Core.Logic.{inl, inr}
use mathlib.Core.Bool.{cond}
use Prim.Native.Nat.{ℕ, zero, suc, ◌+◌, ◌-◌, ◌*◌, ◌≤◌, ◌<◌}
use native.Mathlib.Nat.{zero-mul}
use native.Mathlib.Omega.{arith}
use borrow.Author.Tests.{eqb-true, eq-eqb, ne_eqb}
use lib.Dec.{eqb}
use lib.ListN.{get_or}
use lib.Seq.{ext_get_or}
use Rattle.prelude.specs.Bounded.{max_below, min_where}
use Rattle.prelude.proofs.Tests.{eq_or_ne}
use Rattle.prelude.proofs.Bounded.{le_max_below, max_below_le, length-tabulate, get_d_tabulate}
use Rattle.network.specs.Build.{scenarios}
use Rattle.network.specs.Happens.{happens, tells}
use Rattle.network.specs.Strategy.{time, known_from}
use Rattle.network.specs.declared.Network.{Network}
use Rattle.rounds.specs.Propagate.{raised, propagate}
use Rattle.rounds.proofs.Bounds.{cond_le}
use Rattle.rounds.proofs.Near.{asks, wait_for}
use Rattle.rounds.proofs.ByCell.{length-propagate, time-propagate}
use Rattle.rounds.proofs.Rising.{raised-here}
use Rattle.heaviest.proofs.NegativeCycle.{NegativeCycle, row_asks, happens_all, cells_are, one_scenario}
use Rattle.heaviest.proofs.Raised.{raised_after, after_rounds}
use Rattle.heaviest.proofs.Raised.{raised_after-rises, raised_after-next, raised_after-first}

module _ {m : ℕ} {Γ : Network} (r : NegativeCycle m Γ) where
  place : (u : ℕ) → 0 * Γ.events + u ≡ u
  place u = rw zero-mul (omega arith)

  time_after : (i u : ℕ) → u < suc m → time Γ.events (after_rounds m i) 0 u ≡ raised_after m i u
  time_after i u l = rw (place u) (get_d_tabulate (raised_after m i) (suc m) u 0 l)

  module _ (i : ℕ) where
    -- what row c asks of event u: the row that closes the ring, and the others
    abbrev asked : ℕ → ℕ → ℕ
    asked u c = asks Γ (after_rounds m i) 0 u c

    asked_last : (u c : ℕ) → c < m → suc c ≡ m → asked u c ≡ cond (eqb 1 u) (raised_after m i m + 1) 0
    asked_last u c l e =
        let t = eq-eqb (suc c) m e in
        rw (r.rows c l, t)
        (row_asks Γ (after_rounds m i) u m 1 1 (happens_all r 0) ∙ rw (time_after i m (omega arith)))

    asked_next : (u c : ℕ) → c < m → (suc c ≡ m → ⊥)
        → asked u c ≡ cond (eqb (suc (suc c)) u) (raised_after m i (suc c) + 0) 0
    asked_next u c l n =
        let t = ne_eqb (suc c) m n in
        rw (r.rows c l, t)
        (row_asks Γ (after_rounds m i) u (suc c) (suc (suc c)) 0 (happens_all r 0)
        ∙ rw (time_after i (suc c) (omega arith)))

    asked_most : (u c : ℕ) → c < m → asked u c ≤ raised_after m (suc i) u
    asked_most u c l =
        elim (eq_or_ne (suc c) m) [
          | inl e ↦
              rw (asked_last u c l e) (cond_le (eqb 1 u) (raised_after m i m + 1) (raised_after m (suc i) u) (λ t.
              rw (← eqb-true 1 u t) (omega (arith, raised_after-first m r.some i))))
          | inr n ↦
              let next = raised_after m i (suc c) + 0 in
              rw (asked_next u c l n) (cond_le (eqb (suc (suc c)) u) next (raised_after m (suc i) u) (λ t.
              rw (← eqb-true (suc (suc c)) u t) (omega (arith, raised_after-next m r.some i c))))
        ]

    -- some row asks for all of it
    asked_some : (u : ℕ) → u < suc m → raised_after m (suc i) u ≤ max_below m (asked u)
    asked_some zero l = omega arith
    asked_some (suc zero) l =
        let p = r.some in
        let c : ℕ = m - 1 in
        omega (
          arith,
          le_max_below (asked 1) m c (omega arith),
          asked_last 1 c (omega arith) (omega arith),
          raised_after-first m p i,
        )
    asked_some (suc (suc u)) l =
        let own : ◌≡◌ {A = ℕ} (cond (eqb (suc (suc u)) (suc (suc u))) (raised_after m i (suc u) + 0) 0)
        (raised_after m i (suc u) + 0) = rw (eq-eqb (suc (suc u)) (suc (suc u)) refl) in
        omega (
          arith,
          le_max_below (asked (suc (suc u))) m u (omega arith),
          asked_next (suc (suc u)) u (omega arith) (λ e. omega arith),
          own,
          raised_after-next m r.some i u,
        )

    -- without signals no label waits, and with one scenario the hyperarcs ask nothing
    waits_none : (u k : ℕ) → k ≡ 0 → max_below k (wait_for Γ (after_rounds m i) 0 u) ≡ 0
    waits_none u k q = rw q

    arcs_own : (c k u : ℕ) → c ≡ 1 → k ≡ 0
        → max_below c (λ q. cond (happens Γ q u)
        (min_where k (tells Γ 0 q) (known_from Γ (after_rounds m i) 0) (time Γ.events (after_rounds m i) q u)) 0)
        ≡ time Γ.events (after_rounds m i) 0 u
    arcs_own c k u p q = rw (p, q, happens_all r 0 u) (omega arith)

    raised_is : (u : ℕ) → u < suc m → raised Γ (after_rounds m i) 0 u ≡ raised_after m (suc i) u
    raised_is u l =
        let rows : max_below Γ.rules (asked u) ≡ max_below m (asked u) =
        ap (λ (k : ℕ). max_below k (asked u)) r.rules in
        omega (
          arith,
          raised-here Γ (after_rounds m i) 0 u (happens_all r 0 u),
          rows,
          waits_none u Γ.signals r.signals,
          arcs_own (scenarios Γ) Γ.signals u (one_scenario r) r.signals,
          time_after i u l,
          raised_after-rises m r.some i u,
          max_below_le (asked u) m (raised_after m (suc i) u) (λ c h. asked_most u c h),
          asked_some u l,
        )

    pub propagate-after : propagate Γ (after_rounds m i) ≡ after_rounds m (suc i)
    propagate-after =
        let size = length-tabulate (raised_after m (suc i)) (suc m) in
        ext_get_or 0 (propagate Γ (after_rounds m i)) (after_rounds m (suc i))
        (length-propagate Γ (after_rounds m i) ∙ cells_are r ∙ sym size)
        (λ u l.
        let in_row : u < suc m = omega (arith, length-propagate Γ (after_rounds m i), cells_are r) in
        ap (λ (k : ℕ). get_or (propagate Γ (after_rounds m i)) k 0) (sym (place u))
        ∙ time-propagate Γ (after_rounds m i) 0 u (omega (arith, one_scenario r)) (omega (arith, r.events))
        ∙ raised_is u in_row ∙ sym (get_d_tabulate (raised_after m (suc i)) (suc m) u 0 in_row))
