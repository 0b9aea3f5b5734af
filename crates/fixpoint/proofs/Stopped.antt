-- A run with a budget of n rounds. Where it is stopped, it has reached what n rounds make, which is below every
-- prefixpoint above the floor, and at most as many rounds remain as there is room for, and one more. Where it is not,
-- it is the run without a budget. Assumes nothing.
use mathlib.Core.Path.{◌≡◌, refl, sym, ◌∙◌, ap}
use mathlib.Core.Logic.{◌⊎◌, inl, inr, ◌↔◌}
use mathlib.Core.Bool.{true}
use mathlib.Core.List.{List}
use Prim.Native.Nat.{ℕ, zero, suc, ◌+◌, ◌-◌, ◌≤◌, ◌<◌}
use native.Mathlib.Nat.{zero-add}
use native.Mathlib.Omega.{arith}
use lib.ListN.{length}
use Rattle.prelude.specs.Bytes.{same}
use Rattle.prelude.proofs.Tests.{either}
use Rattle.fixpoint.specs.Iterate.{iterate}
use Rattle.fixpoint.specs.Order.{Below}
use Rattle.fixpoint.specs.Step.{Rising, Prefixpoint}
use Rattle.fixpoint.specs.Run.{within, room, End, Rests, Passes, Spent, Run, run_from, run}
use Rattle.fixpoint.proofs.Turns.{unlike, rest_turn, pass_turn, more_turn}
use Rattle.fixpoint.proofs.Run.{ran_as, run_ends, run_on}
use Rattle.fixpoint.proofs.Budget.{run-done}
use Rattle.fixpoint.proofs.Iterate.{iterate-first}

-- an end is the budget's, or it is not
spent_or_not : (e : End) → (e ≡ Spent) ⊎ (e ≡ Spent → ⊥)
spent_or_not Rests = inr (λ e. unlike Rests Spent e (λ z. omega arith))
spent_or_not Passes = inr (λ e. unlike Passes Spent e (λ z. omega arith))
spent_or_not Spent = inl refl

module _ (step : List ℕ → List ℕ) (cap : List ℕ) (R : Rising (length cap) step) where
  -- a round more counts one more
  counts_up : (k n : ℕ) (t : List ℕ) → k ≤ (run_from step cap k n t).rounds
  counts_up k zero t = omega arith
  counts_up k (suc n) t =
      elim (either (within cap (step t))) [
        | inl p ↦
            elim (either (same (step t) t)) [
              | inl q ↦ rw (rest_turn step cap R k n t p q) (omega arith)
              | inr q ↦ rw (more_turn step cap R k n t p q) (omega (arith, counts_up (suc k) n (step t)))
            ]
        | inr p ↦ rw (pass_turn step cap R k n t p) (omega arith)
      ]

  counts_one : (k n : ℕ) (t : List ℕ) → suc k ≤ (run_from step cap k (suc n) t).rounds
  counts_one k n t =
      elim (either (within cap (step t))) [
        | inl p ↦
            elim (either (same (step t) t)) [
              | inl q ↦ rw (rest_turn step cap R k n t p q) (omega arith)
              | inr q ↦ rw (more_turn step cap R k n t p q) (counts_up (suc k) n (step t))
            ]
        | inr p ↦ rw (pass_turn step cap R k n t p) (omega arith)
      ]

  -- the rounds of a run that is stopped are plain ones, one after another
  plain : (k n : ℕ) (t : List ℕ) → (run_from step cap k n t).end ≡ Spent
      → (run_from step cap k n t).reached ≡ iterate n step t
  plain k zero t e = refl
  plain k (suc n) t e =
      elim (either (within cap (step t))) [
        | inl p ↦
            elim (either (same (step t) t)) [
              | inl q ↦ unlike Rests Spent (ap (λ (r : Run). r.end) (sym (rest_turn step cap R k n t p q)) ∙ e)
                  (λ z. omega arith)
              | inr q ↦
                  let here = more_turn step cap R k n t p q in
                  let stays = ap (λ (r : Run). r.end) (sym here) ∙ e in
                  ap (λ (r : Run). r.reached) here
                  ∙ (plain (suc k) n (step t) stays ∙ sym (iterate-first step n t))
            ]
        | inr p ↦ unlike Passes Spent (ap (λ (r : Run). r.end) (sym (pass_turn step cap R k n t p)) ∙ e)
            (λ z. omega arith)
      ]

  module _ (floor : List ℕ) (l : length floor ≡ length cap) (n : ℕ) where
    abbrev here : Run
    here = run_from step cap 0 n floor

    -- what is known where the budget of n rounds was used up
    pub record Stopped : Type 0 where
      pub reached : here.reached ≡ iterate n step floor
      pub below : (p : List ℕ) → Prefixpoint step floor p → Below here.reached p
      pub inside : within cap floor ≡ true → within cap here.reached ≡ true
      -- the run without a budget makes more rounds, and at most one more than there is room for
      pub unfinished : n < (run step cap floor).rounds
      pub remaining : (run step cap floor).rounds ≤ n + suc (room cap here.reached)

    stopped_goes_on : (e : here.end ≡ Spent) (d : ℕ) → suc (room cap floor) ≡ n + suc d
        → run step cap floor ≡ run_from step cap n (suc d) here.reached
    stopped_goes_on e d q = rw q (run_on step cap R 0 n (suc d) floor e ∙ rw zero-add)

    pub stopped_is : here.end ≡ Spent → Stopped
    stopped_is e =
        let known = ran_as step cap R 0 n floor l in
        let few = (known.spent e).1 in
        let d : ℕ = room cap floor - n in
        let budget : suc (room cap floor) ≡ n + suc d = omega arith in
        let on = stopped_goes_on e d budget in
        record {
          reached = plain 0 n floor e;
          below = known.below;
          inside = λ w. known.spent_within w e;
          unfinished = rw on (counts_one n d here.reached);
          remaining = rw on (ran_as step cap R n (suc d) here.reached (known.sized ∙ l)).counted;
        }

    -- where it was not, every round was made that there is
    pub finished : (here.end ≡ Spent → ⊥) → here ≡ run step cap floor
    finished h =
        let b : ℕ = suc (room cap floor) in
        let swap : n + b ≡ b + n = omega arith in
        sym (run-done step cap R 0 n b floor h)
        ∙ (rw swap (run-done step cap R 0 b n floor (run_ends step cap R floor l)))

    pub spent_iff : (here.end ≡ Spent) ↔ (n < (run step cap floor).rounds)
    spent_iff = (
      λ e. (stopped_is e).unfinished,
      λ h. elim (spent_or_not here.end) [
        | inl e ↦ e
        | inr f ↦
            absurd (omega (
              arith,
              ap (λ (r : Run). r.rounds) (finished f),
              (ran_as step cap R 0 n floor l).rounds,
            ))
      ],
    )
