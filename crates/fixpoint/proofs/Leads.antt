-- Runs that go on behind rounds that end none of them. All that a rising step makes on the way lies below the last
-- list, so that is within the cap if the last is; and no round on the way is at rest if the step still raises behind
-- the last. Assumes nothing.
use mathlib.Core.Path.{◌≡◌, refl, sym, ◌∙◌, ap}
use mathlib.Core.Bool.{true, false}
use mathlib.Core.List.{List}
use Prim.Native.Nat.{ℕ, zero, suc, ◌+◌, ◌-◌, ◌<◌}
use native.Mathlib.Nat.{add-zero, zero-add, add-suc, suc-add}
use native.Mathlib.Numerals.{add-one}
use native.Mathlib.Omega.{arith}
use lib.ListN.{length}
use Rattle.prelude.specs.Bytes.{same}
use Rattle.prelude.proofs.Bytes.{same_true}
use Rattle.prelude.proofs.Tests.{false_of_not-true}
use Rattle.fixpoint.specs.Order.{Below}
use Rattle.fixpoint.specs.Step.{Rising}
use Rattle.fixpoint.specs.Iterate.{iterate}
use Rattle.fixpoint.specs.Run.{within, run_from}
use Rattle.fixpoint.specs.Leads.{Leads}
use Rattle.fixpoint.proofs.Order.{below-refl, below_trans}
use Rattle.fixpoint.proofs.Within.{within-below}
use Rattle.fixpoint.proofs.Iterate.{iterate-add, iterate-first, iterate-sized}
use Rattle.fixpoint.proofs.Turns.{more_turn}

module _ (step : List ℕ → List ℕ) (cap : List ℕ) where
  pub leads_none : (t : List ℕ) → Leads step cap 0 t t
  leads_none t = record { made = refl; inside = λ h. h; on = λ k n. rw (zero-add, add-zero) }

  pub leads_join : {p q : ℕ} {t u v : List ℕ} → Leads step cap p t u → Leads step cap q u v → Leads step cap (p + q) t v
  leads_join {p} {q} {t} {u} {v} A B = record {
    made = B.made ∙ (ap (iterate q step) A.made ∙ sym (iterate-add step p q t));
    inside = λ h. B.inside (A.inside h);
    on = λ k n.
        let a : p + q + n ≡ p + (q + n) = omega arith in
        let b : k + (p + q) ≡ k + p + q = omega arith in
        rw (a, b) (A.on k (q + n) ∙ B.on (k + p) n);
  }

  module _ (R : Rising (length cap) step) where
    -- a round that raises within the cap
    pub leads_one : (t : List ℕ) → within cap (step t) ≡ true → same (step t) t ≡ false → Leads step cap 1 t (step t)
    leads_one t w s = record {
      made = refl;
      inside = λ _. w;
      on = λ k n.
          let one : 1 + n ≡ suc n = omega arith in
          rw (one, add-one) (more_turn step cap R k n t w s);
    }

    -- m rounds from t, none of which ends a run
    record Onward (m : ℕ) (t : List ℕ) : Type 0 where
      pub within_cap : (i : ℕ) → i < m → within cap (iterate (suc i) step t) ≡ true
      pub rises : (i : ℕ) → i < m → same (iterate (suc i) step t) (iterate i step t) ≡ false

    onward_rest : (m : ℕ) (t : List ℕ) → Onward (suc m) t → Onward m (step t)
    onward_rest m t o = record {
      within_cap = λ i h. rw (iterate-first step (suc i) t) at (o.within_cap (suc i) (omega arith));
      rises = λ i h. rw (iterate-first step (suc i) t, iterate-first step i t) at (o.rises (suc i) (omega arith));
    }

    run_onward : (m k n : ℕ) (t : List ℕ) → Onward m t
        → run_from step cap k (m + n) t ≡ run_from step cap (k + m) n (iterate m step t)
    run_onward zero k n t o = rw (zero-add, add-zero)
    run_onward (suc m) k n t o =
        let first = more_turn step cap R k (m + n) t (o.within_cap 0 (omega arith)) (o.rises 0 (omega arith)) in
        let rest = run_onward m (suc k) n (step t) (onward_rest m t o) in
        let count : suc k + m ≡ k + suc m = omega arith in
        rw (suc-add, ← count, iterate-first step m t) (first ∙ rest)

    module _ (t : List ℕ) (l : length t ≡ length cap) where
      -- what comes later is above
      pub later : (i k : ℕ) → Below (iterate i step t) (iterate (i + k) step t)
      later i zero = rw add-zero (below-refl (iterate i step t))
      later i (suc k) =
          rw add-suc
          (below_trans (later i k)
          (R.inflationary (iterate (i + k) step t) (iterate-sized step (length cap) R.sized (i + k) t l)))

      -- what is at rest stays
      resting : (i k : ℕ) → step (iterate i step t) ≡ iterate i step t → iterate (i + k) step t ≡ iterate i step t
      resting i zero e = rw add-zero
      resting i (suc k) e = rw add-suc (ap step (resting i k e) ∙ e)

      -- m rounds, if what they reach is within the cap and q rounds more change it
      pub leads_on : (m q : ℕ) → within cap (iterate m step t) ≡ true → (iterate (m + q) step t ≡ iterate m step t → ⊥)
          → Leads step cap m t (iterate m step t)
      leads_on m q w n =
          let o : Onward m t = record {
            within_cap = λ i h.
                let e : suc i + (m - suc i) ≡ m = omega arith in
                within-below cap (rw e at (later (suc i) (m - suc i))) w;
            rises = λ i h. false_of_not-true (same (iterate (suc i) step t) (iterate i step t)) (λ z.
                let rest = same_true (iterate (suc i) step t) (iterate i step t) z in
                let a : i + (m - i) ≡ m = omega arith in
                let b : i + (m - i + q) ≡ m + q = omega arith in
                n ((rw b at (resting i (m - i + q) rest)) ∙ sym (rw a at (resting i (m - i) rest))));
          } in
          record { made = refl; inside = λ _. w; on = λ k n. run_onward m k n t o }
