-- What the solver's call leaves in the lent table, by what the solver did. Assumes nothing.
use mathlib.Core.Path.{◌≡◌, refl, sym, ◌∙◌, ap}
use mathlib.Core.Logic.{inl}
use mathlib.Core.Bool.{Bool, false}
use mathlib.Core.List.{List, [], ◌∷◌}
use Prim.Native.Nat.{ℕ}
use lib.ListN.{length}
use Rattle.std.specs.Prelude.{Result, Ok, Err}
use Rattle.prelude.proofs.Tests.{zero-is-one}
use Rattle.refusal.specs.declared.Cause.TheVariants.{Inconsistent}
use Rattle.refusal.specs.declared.Refusal.{Refusal}
use Rattle.fixpoint.specs.Run.{End, Rests, Passes, Spent, Run}
use Rattle.network.specs.Build.{cells}
use Rattle.network.specs.WellFormed.{WellFormed}
use Rattle.network.specs.declared.Network.{Network}
use Rattle.solver.specs.Solve.{solve, found}
use Rattle.solver.specs.Solved.{solved_of, table_after, SolvedIs}
use Rattle.solver.specs.declared.Inconsistent.{Inconsistent as NoTable}
use Rattle.solver.proofs.Least.{solve-least}
use Rattle.calls.specs.Values.{OrRefusal}
use Rattle.calls.specs.Call.{without_line_lem, Tests, Left, Leaves}
use Rattle.calls.specs.Lent.{in_place_lem}
use Rattle.calls.specs.Calls.{enough, writing, refusing, rests, solving}
use Rattle.calls.specs.Counting.{counted_as, rounds_taken, counting}
use Rattle.opening.specs.Prologue.{lent_for_lem}
use Rattle.opening.proofs.Prologue.{opened-refused, opened_fails, opened_works}
use Rattle.opening.proofs.Leaves.{leaves_as, kept}

-- the network is consistent, or it is not
module _ (Γ : Network) (m x : List ℕ) (s : Result ℕ NoTable) (is : SolvedIs Γ m x s) where
  consistent_not-none : (n : ℕ) (k : NoTable) → ◌≡◌ {A = Result ℕ NoTable} (Ok n) (Err k) → ⊥
  consistent_not-none n k e = zero-is-one cc

  consistent_rests : (n : ℕ) → s ≡ Ok n → ((solve Γ).end ≡ Rests) × (x ≡ (in_place_lem m).after (found Γ))
  consistent_rests n q = by_end (solve Γ).end refl
    where
      none_of : {A : Type 0} → solved_of (solve Γ) ≡ Err (record { rounds = (solve Γ).rounds }) → A
      none_of p = absurd (consistent_not-none n _ (sym q ∙ is.answer ∙ p))

      by_end : (end : End) → (solve Γ).end ≡ end → ((solve Γ).end ≡ Rests) × (x ≡ (in_place_lem m).after (found Γ))
      by_end Rests p = (p, is.table ∙ rw (p, table_after))
      by_end Passes p = none_of (rw (p, solved_of))
      by_end Spent p = none_of (rw (p, solved_of))

  none_passes : (k : NoTable) → s ≡ Err k → (rests (solve Γ).end ≡ false) × (x ≡ m)
  none_passes k q = by_end (solve Γ).end refl
    where
      by_end : (end : End) → (solve Γ).end ≡ end → (rests (solve Γ).end ≡ false) × (x ≡ m)
      by_end Rests p =
          let found : solved_of (solve Γ) ≡ Ok (solve Γ).rounds = rw (p, solved_of) in
          absurd (consistent_not-none _ k (sym found ∙ sym is.answer ∙ q))
      by_end Passes p = (rw p, is.table ∙ rw (p, table_after))
      by_end Spent p = (rw p, is.table ∙ rw (p, table_after))

-- the count that the solver tells, of a table or of none, is the run's
abbrev told : Result ℕ NoTable → ℕ
told (Ok k) = k
told (Err none) = none.rounds

told-solved : (ρ : Run) → told (solved_of ρ) ≡ ρ.rounds
told-solved ρ = by_end ρ.end refl
  where
    by_end : (end : End) → ρ.end ≡ end → told (solved_of ρ) ≡ ρ.rounds
    by_end Rests p = rw (p, solved_of) refl
    by_end Passes p = rw (p, solved_of) refl
    by_end Spent p = rw (p, solved_of) refl

-- the count goes beside the answer
counted-left : (sheet m : List ℕ) {r : OrRefusal ℕ} {k : ℕ} {x : List ℕ} → Leaves (solving sheet m) r x
    → k ≡ rounds_taken sheet (in_place_lem m) → Leaves (counting sheet m) (counted_as k r) x
counted-left sheet m h e = rw (e, h.answer) (record { answer = refl; memory = h.memory })

module _ (sheet m : List ℕ) where
  abbrev pub room_test : Network → Bool × Refusal
  room_test Γ = enough (in_place_lem m) (cells Γ)

  abbrev rest : Network → Tests
  rest Γ = (rests (solve Γ).end, without_line_lem Inconsistent) ∷ []

  abbrev work : Network → Left (OrRefusal ℕ)
  work Γ = writing (in_place_lem m) (found Γ)

  -- refused before any round
  pub solving-refused : (r : Refusal) → lent_for_lem sheet (length m) ≡ Err r
      → Leaves (counting sheet m) (counted_as 0 (Err r)) m
  solving-refused r q =
      counted-left sheet m
      (kept m r (opened-refused sheet room_test (refusing (in_place_lem m)) rest work r q))
      (opened-refused sheet room_test (λ _. 0) (λ _. []) (λ Γ. (solve Γ).rounds) r q)

  module _ (Γ : Network) (q : lent_for_lem sheet (length m) ≡ Ok Γ) (w : WellFormed Γ) {x : List ℕ}
      {s : Result ℕ NoTable} (is : SolvedIs Γ m x s) where
    made : {k : ℕ} → k ≡ (solve Γ).rounds → k ≡ rounds_taken sheet (in_place_lem m)
    made e = e ∙ opened_works sheet room_test (λ _. 0) (λ _. []) (λ Δ. (solve Δ).rounds) Γ q tt

    pub solving_consistent : (k : ℕ) → s ≡ Ok k → Leaves (counting sheet m) (counted_as k (Ok (cells Γ))) x
    solving_consistent k p =
        let r = consistent_rests Γ m x s is k p in
        let size = (solve-least Γ w r.0).solves.sized in
        counted-left sheet m
        (leaves_as
        (opened_works sheet room_test (refusing (in_place_lem m)) rest work Γ q (rw r.0, tt))
        (record { answer = ap (λ (n : ℕ). Ok n) (sym size); memory = r.1 }))
        (made (ap told (sym p ∙ is.answer) ∙ told-solved (solve Γ)))

    pub solving-none : (k : NoTable) → s ≡ Err k
        → Leaves (counting sheet m) (counted_as k.rounds (Err (without_line_lem Inconsistent))) x
    solving-none k p =
        let r = none_passes Γ m x s is k p in
        counted-left sheet m
        (leaves_as
        (opened_fails sheet room_test (refusing (in_place_lem m)) rest work Γ q _ (inl (r.0, refl)))
        (record { answer = refl; memory = r.1 }))
        (made (ap told (sym p ∙ is.answer) ∙ told-solved (solve Γ)))
