-- Where a run of a rising step ends. Whatever its budget, what it reached lies between the floor and every
-- prefixpoint above the floor (`ran_as`): so where it rests, that is the least prefixpoint, and where it passes the
-- cap, no prefixpoint lies within the cap. A run whose budget is one more than the room between floor and cap is
-- never spent (`run_ends`), since each round but the last takes room. Assumes nothing.
use mathlib.Core.Path.{◌≡◌, refl, sym, ◌∙◌, ap}
use mathlib.Core.Logic.{inl, inr}
use mathlib.Core.Bool.{true, false}
use mathlib.Core.List.{List}
use Prim.Native.Nat.{ℕ, zero, suc, ◌+◌, ◌≤◌}
use native.Mathlib.Nat.{zero-add, add-zero, suc-add}
use native.Mathlib.Omega.{arith}
use lib.ListN.{length}
use Rattle.prelude.specs.Bytes.{same}
use Rattle.prelude.proofs.Tests.{either, by_test, false_of_not-true, clash}
use Rattle.prelude.proofs.Bytes.{same_true}
use Rattle.fixpoint.specs.Order.{Below}
use Rattle.fixpoint.specs.Step.{Rising, Prefixpoint}
use Rattle.fixpoint.specs.Run.{within, room, End, Rests, Passes, Spent, Run, ran, run_from, run}
use Rattle.fixpoint.proofs.Order.{below-refl, below_trans}
use Rattle.fixpoint.proofs.Within.{within-below, room_falls}
use Rattle.fixpoint.proofs.Turns.{unlike, rest_turn, pass_turn, more_turn}

-- what is known of at most n rounds from a floor, after k others
pub record Ran (step : List ℕ → List ℕ) (cap floor : List ℕ) (k n : ℕ) (r : Run) : Type 0 where
  pub sized : length r.reached ≡ length floor
  pub above : Below floor r.reached
  pub below : (p : List ℕ) → Prefixpoint step floor p → Below r.reached p
  -- the last round raised nothing, and is within the cap
  pub rests : r.end ≡ Rests → (step r.reached ≡ r.reached) × (within cap r.reached ≡ true)
  pub passes : r.end ≡ Passes → within cap r.reached ≡ false
  -- every round was made, and each took room
  pub spent : r.end ≡ Spent → (r.rounds ≡ k + n) × (room cap r.reached + n ≤ room cap floor)
  pub spent_within : within cap floor ≡ true → r.end ≡ Spent → within cap r.reached ≡ true
  pub rounds : r.rounds ≤ k + n
  pub counted : r.rounds ≤ k + suc (room cap floor)

module _ (step : List ℕ → List ℕ) (cap : List ℕ) (R : Rising (length cap) step) where
  -- what is above the floor and asks for no raise is above the next round too
  prefixpoint_on : (t p : List ℕ) → length t ≡ length cap → Prefixpoint step t p → Prefixpoint step (step t) p
  prefixpoint_on t p l h = record {
    sized = h.sized ∙ l ∙ sym (R.sized t l);
    above = below_trans (R.monotone t p l (h.sized ∙ l) h.above) h.closed;
    closed = h.closed;
  }

  pub ran_as : (k n : ℕ) (t : List ℕ) → length t ≡ length cap → Ran step cap t k n (run_from step cap k n t)
  ran_as k zero t l = record {
    sized = refl;
    above = below-refl t;
    below = λ p h. h.above;
    rests = λ e. unlike Spent Rests e (λ z. omega arith);
    passes = λ e. unlike Spent Passes e (λ z. omega arith);
    spent = λ _. (omega arith, omega arith);
    spent_within = λ h _. h;
    rounds = omega arith;
    counted = omega arith;
  }
  ran_as k (suc n) t l =
      by_test (Ran step cap t k (suc n)) (within cap (step t))
      (elim (same (step t) t) [ true ↦ ran (suc k) t Rests | false ↦ run_from step cap (suc k) n (step t) ])
      (ran (suc k) (step t) Passes)
      (λ in_cap. by_test (Ran step cap t k (suc n)) (same (step t) t) (ran (suc k) t Rests)
      (run_from step cap (suc k) n (step t))
      (λ e. record {
        sized = refl;
        above = below-refl t;
        below = λ p h. h.above;
        rests = λ _. (same_true (step t) t e, within-below cap (R.inflationary t l) in_cap);
        passes = λ z. unlike Rests Passes z (λ z. omega arith);
        spent = λ z. unlike Rests Spent z (λ z. omega arith);
        spent_within = λ _ z. unlike Rests Spent z (λ z. omega arith);
        rounds = omega arith;
        counted = omega arith;
      })
      (λ e.
      let next : length (step t) ≡ length cap = R.sized t l in
      let more = ran_as (suc k) n (step t) next in
      let falls = room_falls cap t (step t) l next (R.inflationary t l) e in_cap in
      record {
        sized = more.sized ∙ next ∙ sym l;
        above = below_trans (R.inflationary t l) more.above;
        below = λ p h. more.below p (prefixpoint_on t p l h);
        rests = more.rests;
        passes = more.passes;
        spent = λ z. (omega (arith, (more.spent z).0), omega (arith, (more.spent z).1));
        spent_within = λ _ z. more.spent_within in_cap z;
        rounds = omega (arith, more.rounds);
        counted = omega (arith, more.counted);
      }))
      (λ out. record {
        sized = R.sized t l ∙ sym l;
        above = R.inflationary t l;
        below = λ p h. (prefixpoint_on t p l h).above;
        rests = λ z. unlike Passes Rests z (λ z. omega arith);
        passes = λ _. out;
        spent = λ z. unlike Passes Spent z (λ z. omega arith);
        spent_within = λ _ z. unlike Passes Spent z (λ z. omega arith);
        rounds = omega arith;
        counted = omega arith;
      })

  -- a budget of one more than the room is never used up
  pub run_ends : (floor : List ℕ) → length floor ≡ length cap → (run step cap floor).end ≡ Spent → ⊥
  run_ends floor l e = omega (arith, ((ran_as 0 (suc (room cap floor)) floor l).spent e).1)

  -- within the cap a run rests at the least prefixpoint; where it does not rest, no prefixpoint lies within the cap
  pub record LeastOrNone (floor : List ℕ) (r : Run) : Type 0 where
    pub sized : length r.reached ≡ length cap
    pub below : (p : List ℕ) → Prefixpoint step floor p → Below r.reached p
    pub rests : r.end ≡ Rests → Prefixpoint step floor r.reached × (within cap r.reached ≡ true)
    pub none : (r.end ≡ Rests → ⊥) → (p : List ℕ) → Prefixpoint step floor p → within cap p ≡ false
    pub rounds : r.rounds ≤ suc (room cap floor)

  -- an end that is neither at rest nor spent is past the cap
  passes_of : (e : End) → (e ≡ Rests → ⊥) → (e ≡ Spent → ⊥) → e ≡ Passes
  passes_of Rests n m = absurd (n refl)
  passes_of Passes n m = refl
  passes_of Spent n m = absurd (m refl)

  pub least_or_none : (floor : List ℕ) → length floor ≡ length cap → LeastOrNone floor (run step cap floor)
  least_or_none floor l =
      let r = run step cap floor in
      let all = ran_as 0 (suc (room cap floor)) floor l in
      record {
        sized = all.sized ∙ l;
        below = all.below;
        rests = λ e.
            let w = all.rests e in
            (record { sized = all.sized; above = all.above; closed = rw w.0 (below-refl r.reached) }, w.1);
        none = λ n p h.
            let out = all.passes (passes_of r.end n (run_ends floor l)) in
            false_of_not-true (within cap p)
            (λ e. clash (within cap r.reached) (within-below cap (all.below p h) e) out);
        rounds = omega (arith, all.counted);
      }

  as_spent : {r q : Run} → r ≡ q → r.end ≡ Spent → q.end ≡ Spent
  as_spent p e = sym (ap (λ (r : Run). r.end) p) ∙ e

  -- a run that was stopped goes on from what it reached: with m rounds more it ends as if it had not been stopped
  pub run_on : (k n m : ℕ) (t : List ℕ) → (run_from step cap k n t).end ≡ Spent
      → run_from step cap k (n + m) t ≡ run_from step cap (k + n) m (run_from step cap k n t).reached
  run_on k zero m t e = rw (zero-add, add-zero)
  run_on k (suc n) m t e =
      elim (either (within cap (step t))) [
        | inl p ↦
            elim (either (same (step t) t)) [
              | inl q ↦ unlike Rests Spent (as_spent (rest_turn step cap R k n t p q) e) (λ z. omega arith)
              | inr q ↦
                  let here = more_turn step cap R k n t p q in
                  let goes_on = run_on (suc k) n m (step t) (as_spent here e) in
                  let count : suc k + n ≡ k + suc n = omega arith in
                  rw (here, suc-add, ← count) (more_turn step cap R k (n + m) t p q ∙ goes_on)
            ]
        | inr p ↦ unlike Passes Spent (as_spent (pass_turn step cap R k n t p) e) (λ z. omega arith)
      ]
