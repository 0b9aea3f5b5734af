-- How many rounds a negative cycle takes. Where its events are after i rounds is known, so the last round is the first
-- that takes one of them over the horizon, and no table is good. No network of as many events, the same horizon and no
-- signal takes more. Assumes nothing.
use mathlib.Core.Path.{◌≡◌, refl, sym, ◌∙◌, ap}
use mathlib.Core.Logic.{inl, inr}
use mathlib.Core.Bool.{Bool, true, false, ◌||◌, cond}
use mathlib.Core.List.{List}
use Prim.Native.Nat.{ℕ, zero, suc, ◌+◌, ◌-◌, ◌*◌, ◌/◌, ◌%◌, ◌≤◌, ◌<◌}
use native.Mathlib.Nat.{mul-one, mul-le-mul_right, mod-lt, mod-eq_of_lt}
use native.Mathlib.Omega.{arith}
use lib.Dec.{eqb}
use lib.ListN.{get_or, length-replicate, get_or-replicate}
use lib.Seq.{ext_get_or}
use Rattle.prelude.proofs.Tests.{clash, false_of_not-true}
use Rattle.prelude.proofs.Bounded.{length-tabulate, get_d_tabulate}
use Rattle.fixpoint.specs.Iterate.{iterate}
use Rattle.fixpoint.specs.Run.{within}
use Rattle.fixpoint.proofs.Takes.{takes_once}
use Rattle.fixpoint.proofs.Within.{within-at, within_by}
use Rattle.network.specs.Build.{scenarios, cells}
use Rattle.network.specs.Least.{Inconsistent}
use Rattle.network.specs.WellFormed.{WellFormed}
use Rattle.network.specs.declared.Network.{Network}
use Rattle.rounds.specs.Propagate.{propagate}
use Rattle.rounds.specs.Cap.{fixed, cap}
use Rattle.rounds.proofs.Cap.{length-cap}
use Rattle.solver.specs.Solve.{floor, solve}
use Rattle.solver.specs.Rounds.{TakesRounds, moving}
use Rattle.solver.proofs.Least.{solve-none}
use Rattle.solver.proofs.Rounds.{solve_ends, counted, moving_most}
use Rattle.heaviest.proofs.Raised.{raised_after, after_rounds, raised_after-none, raised_after-moves}
use Rattle.heaviest.proofs.Raised.{raised_after-within, raised_after-passes}
use Rattle.heaviest.proofs.NegativeCycle.{NegativeCycle, happens_all, cells_are}
use Rattle.heaviest.proofs.Round.{propagate-after}

module _ {m : ℕ} {Γ : Network} (r : NegativeCycle m Γ) where
  at_event : (i u : ℕ) → u < suc m → get_or (after_rounds m i) u 0 ≡ raised_after m i u
  at_event i u l = get_d_tabulate (raised_after m i) (suc m) u 0 l

  floor_is : floor Γ ≡ after_rounds m 0
  floor_is =
      ext_get_or 0 (floor Γ) (after_rounds m 0)
      (length-replicate (cells Γ) 0 ∙ cells_are r ∙ sym (length-tabulate (raised_after m 0) (suc m)))
      (λ u l.
      let in_row : u < suc m = omega (arith, length-replicate {A = ℕ} (cells Γ) 0, cells_are r) in
      get_or-replicate {A = ℕ} (cells Γ) u 0 0 (omega (arith, cells_are r))
      ∙ sym (at_event 0 u in_row ∙ raised_after-none m r.some u (omega arith)))

  iterate-after : (i : ℕ) → iterate i (propagate Γ) (floor Γ) ≡ after_rounds m i
  iterate-after zero = floor_is
  iterate-after (suc i) = ap (propagate Γ) (iterate-after i) ∙ propagate-after r i

  -- the limits: 0 for the start, and the horizon for the others
  limit : (u : ℕ) → u < suc m → get_or (cap Γ) u 0 ≡ cond (eqb u 0) 0 Γ.horizon
  limit u l =
      let f : ℕ → ℕ = λ i. cond (fixed Γ (i / Γ.events) (i % Γ.events)) 0 Γ.horizon in
      let own : u % Γ.events ≡ u = mod-eq_of_lt {n = u} {m = Γ.events} (omega (arith, r.events)) in
      get_d_tabulate f (cells Γ) u 0 (omega (arith, cells_are r))
      ∙ rw (happens_all r (u / Γ.events) (u % Γ.events), own) (unfixed (eqb u 0))
    where
      unfixed : (b : Bool) → ◌≡◌ {A = ℕ} (cond (b || false) 0 Γ.horizon) (cond b 0 Γ.horizon)
      unfixed true = omega arith
      unfixed false = omega arith

  -- so many rounds stay within the limits, and raise something; the next passes the horizon
  abbrev before : ℕ
  before = m * Γ.horizon

  stays : (i : ℕ) → i < before → within (cap Γ) (after_rounds m (suc i)) ≡ true
  stays i l = within_by (cap Γ) (after_rounds m (suc i)) (λ u k.
      let in_row : u < suc m = omega (arith, length-cap Γ, cells_are r) in
      rw (limit u in_row, at_event (suc i) u in_row) (raised_after-within m r.some Γ.horizon i u l))

  moves : (i : ℕ) → after_rounds m (suc i) ≡ after_rounds m i → ⊥
  moves i e =
      let u : ℕ = suc (i % m) in
      let in_row : u < suc m = omega (arith, mod-lt i r.some) in
      omega (
        arith,
        ap (λ (t : List ℕ). get_or t u 0) e,
        at_event (suc i) u in_row,
        at_event i u in_row,
        raised_after-moves m r.some i,
      )

  passes : within (cap Γ) (after_rounds m (suc before)) ≡ false
  passes = false_of_not-true (within (cap Γ) (after_rounds m (suc before))) (λ e.
      let in_row : 1 < suc m = omega (arith, r.some) in
      omega (
        arith,
        within-at (cap Γ) (after_rounds m (suc before)) e 1 (omega (arith, length-cap Γ, cells_are r)),
        limit 1 in_row,
        at_event (suc before) 1 in_row,
        raised_after-passes m r.some Γ.horizon,
      ))

  pub cycle_takes : TakesRounds Γ (suc before)
  cycle_takes = record {
    before = before;
    count = refl;
    last = inr (rw (iterate-after (suc before)) passes);
    no_sooner = λ i l e. elim e [
      | inl q ↦ moves i (rw (iterate-after (suc i), iterate-after i) at q)
      | inr q ↦ clash (within (cap Γ) (after_rounds m (suc i))) (stays i l) (rw (iterate-after (suc i)) at q)
    ];
  }

  pub cycle_inconsistent : WellFormed Γ → Inconsistent Γ
  cycle_inconsistent W =
      let e = solve_ends Γ in
      let count : (solve Γ).rounds ≡ suc before = takes_once e.takes cycle_takes in
      solve-none Γ W (λ rests.
      clash (within (cap Γ) (after_rounds m (suc before)))
      (rw (count, iterate-after (suc before)) at (e.rests.0 rests)) passes)

-- no network of so many events and no signal takes more
pub rounds_most : (Δ : Network) (k : ℕ) → Δ.signals ≡ 0 → TakesRounds Δ k → k ≤ (Δ.events - 1) * Δ.horizon + 1
rounds_most Δ k none t =
    let size : (Δ.events - 1) * scenarios Δ ≡ Δ.events - 1 = rw none (mul-one (Δ.events - 1)) in
    let few : moving Δ ≤ Δ.events - 1 = omega (arith, moving_most Δ, size) in
    omega (arith, takes_once t (counted Δ).takes, (counted Δ).most, mul-le-mul_right Δ.horizon few)
