-- A run that is not stopped counts the rounds that it takes, and rests exactly where what they make is within the cap.
-- There is one such count, and fewer rounds are those that go on. Assumes nothing.
use mathlib.Core.Path.{◌≡◌, refl, ◌∙◌, ap}
use mathlib.Core.Logic.{inl, inr, ◌↔◌}
use mathlib.Core.Bool.{true, false}
use mathlib.Core.List.{List}
use Prim.Native.Nat.{ℕ, zero, suc, ◌<◌}
use native.Mathlib.Omega.{arith}
use lib.ListN.{length}
use Rattle.prelude.specs.Bytes.{same}
use Rattle.prelude.proofs.Tests.{either, eq_or_ne, lt_or_ge, clash}
use Rattle.prelude.proofs.Bytes.{same_true, same_of_eq}
use Rattle.fixpoint.specs.Iterate.{iterate}
use Rattle.fixpoint.specs.Step.{Rising}
use Rattle.fixpoint.specs.Run.{within, room, Rests, Passes, Spent, Run, run_from, run}
use Rattle.fixpoint.specs.Takes.{GoesOn, Takes}
use Rattle.fixpoint.proofs.Turns.{unlike, rest_turn, pass_turn, more_turn}
use Rattle.fixpoint.proofs.Run.{run_ends}

module _ (step : List ℕ → List ℕ) (cap : List ℕ) (R : Rising (length cap) step) (floor : List ℕ) where
  abbrev at : ℕ → List ℕ
  at k = iterate k step floor

  pub record Ended (r : Run) : Type 0 where
    pub takes : Takes step cap floor r.rounds
    pub rests : (r.end ≡ Rests) ↔ (within cap (at r.rounds) ≡ true)

  abbrev Goes : ℕ → Type 0
  Goes k = GoesOn step cap floor k

  goes_on : (k : ℕ) → Goes k → within cap (at (suc k)) ≡ true → same (at (suc k)) (at k) ≡ false → Goes (suc k)
  goes_on k g w s i l e =
      elim (eq_or_ne i k) [
        | inl q ↦
            elim (rw q at e) [
              | inl z ↦ clash (same (at (suc k)) (at k)) (same_of_eq (at (suc k)) (at k) z) s
              | inr z ↦ clash (within cap (at (suc k))) w z
            ]
        | inr q ↦ g i (omega arith) e
      ]

  ends_from : (k n : ℕ) → Goes k → ((run_from step cap k n (at k)).end ≡ Spent → ⊥)
      → Ended (run_from step cap k n (at k))
  ends_from k zero g h = absurd (h refl)
  ends_from k (suc n) g h =
      elim (either (within cap (at (suc k)))) [
        | inl p ↦
            elim (either (same (at (suc k)) (at k))) [
              | inl q ↦
                  rw (rest_turn step cap R k n (at k) p q) (record {
                    takes = record {
                      before = k;
                      count = refl;
                      last = inl (same_true (at (suc k)) (at k) q);
                      no_sooner = g;
                    };
                    rests = (λ _. p, λ _. refl);
                  })
              | inr q ↦
                  let here = more_turn step cap R k n (at k) p q in
                  rw here (ends_from (suc k) n (goes_on k g p q) (λ e. h (ap (λ (r : Run). r.end) here ∙ e)))
            ]
        | inr p ↦
            rw (pass_turn step cap R k n (at k) p) (record {
              takes = record { before = k; count = refl; last = inr p; no_sooner = g };
              rests = (
                λ e. unlike Passes Rests e (λ z. omega arith),
                λ e. clash (within cap (at (suc k))) e p,
              );
            })
      ]

  pub run_takes : length floor ≡ length cap → Ended (run step cap floor)
  run_takes l = ends_from 0 (suc (room cap floor)) (λ i h. absurd (omega arith)) (run_ends step cap R floor l)

-- there is one such count
pub takes_once : {step : List ℕ → List ℕ} {cap floor : List ℕ} {m n : ℕ} → Takes step cap floor m
    → Takes step cap floor n → m ≡ n
takes_once {m = m} {n} A B =
    elim (lt_or_ge A.before B.before) [
      | inl l ↦ absurd (B.no_sooner A.before l A.last)
      | inr g ↦
          elim (lt_or_ge B.before A.before) [
            | inl l ↦ absurd (A.no_sooner B.before l B.last)
            | inr h ↦ omega (arith, A.count, B.count)
          ]
    ]

-- fewer rounds are exactly those none of which is the last
pub goes_iff : {step : List ℕ → List ℕ} {cap floor : List ℕ} {n m : ℕ} → Takes step cap floor m
    → (n < m) ↔ GoesOn step cap floor n
goes_iff {n = n} T = (
  λ l i h. T.no_sooner i (omega (arith, T.count)),
  λ g. elim (lt_or_ge T.before n) [ inl l ↦ absurd (g T.before l T.last) | inr h ↦ omega (arith, T.count) ],
)
