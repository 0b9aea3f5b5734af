-- What a run from all zeros finds within a budget of n rounds: where those are enough the solver's answer, and
-- otherwise a floor. Assumes nothing.
use Rattle.std.proofs.Common.{◌≡◌, ℕ, ◌<◌, ◌≤◌, true, false, List, ◌++◌, length, take, drop, sym, refl, ap, ◌∙◌, arith}
use Rattle.std.proofs.Common.{◌⊎◌, inl, inr, Result, Ok, Err, le-ltb, lt-ltb, ltb-false, take_at}
use Rattle.prelude.proofs.Tests.{lt_or_ge}
use Rattle.fixpoint.specs.Iterate.{iterate}
use Rattle.fixpoint.specs.Run.{End, Rests, Passes, Spent, Run, run_from}
use Rattle.fixpoint.proofs.Turns.{unlike}
use Rattle.network.specs.Limits as L
use Rattle.network.specs.Build.{cells}
use Rattle.network.specs.declared.Network.{Network}
use Rattle.rows.specs.Rows.{handed}
use Rattle.rounds.specs.Propagate.{propagate}
use Rattle.rounds.specs.Cap.{cap}
use Rattle.solver.specs.declared.End.TheVariants as variants
use Rattle.solver.specs.declared.Ended.{Ended}
use Rattle.solver.specs.declared.Inconsistent.{Inconsistent}
use Rattle.solver.specs.declared.Outcome.{Outcome}
use Rattle.solver.specs.declared.Outcome.TheVariants.{Finished, Stopped}
use Rattle.solver.specs.Masked.{masked}
use Rattle.solver.specs.Solve.{floor, solve, found}
use Rattle.solver.specs.Stopped.{stops, floor_after, left}
use Rattle.solver.specs.Solved.{solved_of, table_after, SolvedIs}
use Rattle.solver.specs.Within.{finished, WithinIs}
use Rattle.solver.specs.Run.{told, RunIs}
use Rattle.solver.proofs.Masked.{length-masked}
use Rattle.solver.proofs.Stopped.{length-floor, stopped, stopped_only, unstopped}
use Rattle.solver.proofs.Solving.{zeros, handed-masked, held_zeros}

-- what is told tells how the run ended
told-once : (e f : End) → told e ≡ told f → e ≡ f
told-once Rests Rests z = refl
told-once Rests Passes z = cc
told-once Rests Spent z = cc
told-once Passes Rests z = cc
told-once Passes Passes z = refl
told-once Passes Spent z = cc
told-once Spent Rests z = cc
told-once Spent Passes z = cc
told-once Spent Spent z = refl

-- it is stopped or it goes on
pub stops-true : (Γ : Network) (n : ℕ) → n < (solve Γ).rounds → stops Γ n ≡ true
unfolding stops
stops-true Γ n h = lt-ltb n (solve Γ).rounds h

pub stops-false : (Γ : Network) (n : ℕ) → (solve Γ).rounds ≤ n → stops Γ n ≡ false
unfolding stops
stops-false Γ n h = le-ltb n (solve Γ).rounds h

pub stops-enough : (Γ : Network) (n : ℕ) → stops Γ n ≡ false → (solve Γ).rounds ≤ n
unfolding stops
stops-enough Γ n e = ltb-false n (solve Γ).rounds e

-- what is answered without a budget is answered within one of rounds enough
within_enough : (Γ : Network) (n : ℕ) {entry exit : List ℕ} {q : Result ℕ Inconsistent} → (solve Γ).rounds ≤ n
    → SolvedIs Γ entry exit q → WithinIs Γ n entry exit (finished q)
within_enough Γ n h A =
    let goes : stops Γ n ≡ false = stops-false Γ n h in
    record { answer = rw (goes, A.answer) refl; table = A.table ∙ rw goes refl }

-- and the other way
abbrev pub plain : Result Outcome Inconsistent → Result ℕ Inconsistent
plain (Ok (Finished k)) = Ok k
plain (Ok (Stopped l)) = Ok l
plain (Err i) = Err i

plain-finished : (q : Result ℕ Inconsistent) → plain (finished q) ≡ q
plain-finished (Ok k) = refl
plain-finished (Err i) = refl

abbrev pub are_stopped : Result Outcome Inconsistent → ℕ
are_stopped (Ok (Finished k)) = 0
are_stopped (Ok (Stopped l)) = 1
are_stopped (Err i) = 0

finished-not-stopped : (q : Result ℕ Inconsistent) → are_stopped (finished q) ≡ 0
finished-not-stopped (Ok k) = refl
finished-not-stopped (Err i) = refl

module _ (Γ : Network) (n : ℕ) (enough : (solve Γ).rounds ≤ n) {entry exit : List ℕ} {r : Result Outcome Inconsistent}
    (A : WithinIs Γ n entry exit r) where
  goes_on : stops Γ n ≡ false
  goes_on = stops-false Γ n enough

  answers : r ≡ finished (solved_of (solve Γ))
  answers = A.answer ∙ rw goes_on refl

  pub solved_plain : SolvedIs Γ entry exit (plain r)
  solved_plain = record {
    answer = ap plain answers ∙ plain-finished (solved_of (solve Γ));
    table = A.table ∙ rw goes_on refl;
  }

  pub never_stopped : (l : ℕ) → r ≡ Ok (Stopped l) → ⊥
  never_stopped l e =
      omega (arith, ap are_stopped e, ap are_stopped answers, finished-not-stopped (solved_of (solve Γ)))

-- what is answered tells whether n rounds are enough
module _ (Γ : Network) (n : ℕ) {entry exit : List ℕ} {r : Result Outcome Inconsistent}
    (A : WithinIs Γ n entry exit r) where
  pub enough_of : are_stopped r ≡ 0 → (solve Γ).rounds ≤ n
  enough_of z = by_order (lt_or_ge n (solve Γ).rounds)
    where
      by_order : (n < (solve Γ).rounds) ⊎ ((solve Γ).rounds ≤ n) → (solve Γ).rounds ≤ n
      by_order (inl l) =
          let stopped : r ≡ Ok (Stopped (left Γ (floor_after Γ n))) = A.answer ∙ rw (stops-true Γ n l) refl in
          absurd (omega (arith, z, ap are_stopped stopped))
      by_order (inr g) = g

  pub fewer_of : are_stopped r ≡ 1 → n < (solve Γ).rounds
  fewer_of z = by_order (lt_or_ge n (solve Γ).rounds)
    where
      by_order : (n < (solve Γ).rounds) ⊎ ((solve Γ).rounds ≤ n) → n < (solve Γ).rounds
      by_order (inl l) = l
      by_order (inr g) =
          absurd (omega (
            arith,
            z,
            ap are_stopped (answers Γ n g A),
            finished-not-stopped (solved_of (solve Γ)),
          ))

module _ (Γ : Network) (n : ℕ) {exit : List ℕ} {r : Ended} (A : RunIs Γ n zeros exit r) where
  run-is : A.run ≡ run_from (propagate Γ) (cap Γ) 0 n (floor Γ)
  run-is = A.run_is ∙ ap (run_from (propagate Γ) (cap Γ) 0 n) (held_zeros Γ)

  -- a run that is not stopped is the solver's
  record Whole : Type 0 where
    enough : (solve Γ).rounds ≤ n
    solves : A.run ≡ solve Γ

  whole : (A.run.end ≡ Spent → ⊥) → Whole
  whole h = by_order (lt_or_ge n (solve Γ).rounds)
    where
      by_order : (n < (solve Γ).rounds) ⊎ ((solve Γ).rounds ≤ n) → Whole
      by_order (inl l) = absurd (h (ap (λ (ρ : Run). ρ.end) run-is ∙ (stopped Γ n l).0))
      by_order (inr l) = record { enough = l; solves = run-is ∙ unstopped Γ n l }

  -- what was reached is handed out with blanks
  handed_out : (A.run.end ≡ Passes → ⊥) → (entry after : List ℕ) → after ≡ handed Γ exit ++ drop (cells Γ) entry
      → after ≡ masked Γ L.blank A.run.reached ++ drop (cells Γ) entry
  handed_out h entry after z =
      z ∙ ap (λ (σ : List ℕ). σ ++ drop (cells Γ) entry)
      (handed-masked Γ exit ∙ ap (masked Γ L.blank) (A.reached h))

  module _ (entry after : List ℕ) where
    pub within_resting : r.end ≡ variants.Rests → after ≡ handed Γ exit ++ drop (cells Γ) entry
        → WithinIs Γ n entry after (Ok (Finished r.rounds))
    within_resting e z =
        let here : A.run.end ≡ Rests = told-once A.run.end Rests (sym A.end_is ∙ e) in
        let w = whole (λ p. unlike Rests Spent (sym here ∙ p) (λ q. omega arith)) in
        let rests : (solve Γ).end ≡ Rests = rw w.solves at here in
        let count : r.rounds ≡ (solve Γ).rounds = rw w.solves at A.rounds_are in
        let out = handed_out (λ p. unlike Rests Passes (sym here ∙ p) (λ q. omega arith)) entry after z in
        let size : length (found Γ) ≡ cells Γ = length-masked Γ L.blank (solve Γ).reached in
        within_enough Γ n {q = Ok r.rounds} w.enough (record {
          answer = rw (rests, solved_of, count);
          table = rw w.solves at out ∙ rw (rests, table_after, size);
        })

    pub within_spent : r.end ≡ variants.Spent → after ≡ handed Γ exit ++ drop (cells Γ) entry → (l : ℕ)
        → l ≡ left Γ (take (cells Γ) after) → WithinIs Γ n entry after (Ok (Stopped l))
    within_spent e z l q =
        let here : A.run.end ≡ Spent = told-once A.run.end Spent (sym A.end_is ∙ e) in
        let fewer = stopped_only Γ n (ap (λ (ρ : Run). ρ.end) (sym run-is) ∙ here) in
        let stop : stops Γ n ≡ true = stops-true Γ n fewer in
        let at : A.run.reached ≡ iterate n (propagate Γ) (floor Γ) =
        ap (λ (ρ : Run). ρ.reached) run-is ∙ (stopped Γ n fewer).1 in
        let size = length-floor Γ n in
        let out : after ≡ floor_after Γ n ++ drop (cells Γ) entry =
        rw at at (handed_out (λ p. unlike Spent Passes (sym here ∙ p) (λ q. omega arith)) entry after z) in
        let front : take (cells Γ) after ≡ floor_after Γ n =
        rw out (take_at (floor_after Γ n) (drop (cells Γ) entry) (cells Γ) size) in
        record { answer = rw (stop, q, front) refl; table = out ∙ rw (stop, size) refl }

  pub within_passing : r.end ≡ variants.Passes → (table : List ℕ)
      → WithinIs Γ n table table (Err (record { rounds = r.rounds }))
  within_passing e table =
      let here : A.run.end ≡ Passes = told-once A.run.end Passes (sym A.end_is ∙ e) in
      let w = whole (λ p. unlike Passes Spent (sym here ∙ p) (λ q. omega arith)) in
      let passes : (solve Γ).end ≡ Passes = rw w.solves at here in
      let count : r.rounds ≡ (solve Γ).rounds = rw w.solves at A.rounds_are in
      within_enough Γ n {q = Err (record { rounds = r.rounds })} w.enough (record {
        answer = rw (passes, solved_of, count);
        table = rw (passes, table_after);
      })
