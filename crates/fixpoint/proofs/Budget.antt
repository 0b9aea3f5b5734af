-- A run that ended by itself ends so with any greater budget; so every budget of more than the room is as good as any
-- other. Assumes nothing.
use mathlib.Core.Path.{◌≡◌, refl, sym, ◌∙◌, ap}
use mathlib.Core.Logic.{inl, inr}
use mathlib.Core.List.{List}
use Prim.Native.Nat.{ℕ, zero, suc, ◌+◌, ◌-◌, ◌≤◌, ◌<◌}
use native.Mathlib.Nat.{suc-add}
use native.Mathlib.Omega.{arith}
use lib.ListN.{length}
use Rattle.prelude.specs.Bytes.{same}
use Rattle.prelude.proofs.Tests.{either}
use Rattle.fixpoint.specs.Step.{Rising}
use Rattle.fixpoint.specs.Run.{within, room, Spent, Run, run_from}
use Rattle.fixpoint.proofs.Turns.{rest_turn, pass_turn, more_turn}
use Rattle.fixpoint.proofs.Run.{ran_as}

module _ (step : List ℕ → List ℕ) (cap : List ℕ) (R : Rising (length cap) step) where
  pub run-done : (k n m : ℕ) (t : List ℕ) → ((run_from step cap k n t).end ≡ Spent → ⊥)
      → run_from step cap k (n + m) t ≡ run_from step cap k n t
  run-done k zero m t h = absurd (h refl)
  run-done k (suc n) m t h =
      elim (either (within cap (step t))) [
        | inl p ↦
            elim (either (same (step t) t)) [
              | inl q ↦ rw suc-add (rest_turn step cap R k (n + m) t p q ∙ sym (rest_turn step cap R k n t p q))
              | inr q ↦
                  let here = more_turn step cap R k n t p q in
                  let goes_on = run-done (suc k) n m (step t) (λ e. h (ap (λ (r : Run). r.end) here ∙ e)) in
                  rw suc-add (more_turn step cap R k (n + m) t p q ∙ goes_on ∙ sym here)
            ]
        | inr p ↦ rw suc-add (pass_turn step cap R k (n + m) t p ∙ sym (pass_turn step cap R k n t p))
      ]

  pub enough : (k n m : ℕ) (t : List ℕ) → length t ≡ length cap → room cap t < n → n ≤ m
      → run_from step cap k m t ≡ run_from step cap k n t
  enough k n m t l h b =
      let e : m ≡ n + (m - n) = omega arith in
      rw e (run-done k n (m - n) t (λ z. omega (arith, ((ran_as step cap R k n t l).spent z).1)))
