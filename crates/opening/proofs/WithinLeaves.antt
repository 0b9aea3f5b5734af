-- What the call that solves within n rounds leaves in the lent table, by what the solver did. Assumes nothing.
use mathlib.Core.Path.{◌≡◌, refl, sym, ◌∙◌, ap}
use mathlib.Core.Logic.{inl}
use mathlib.Core.Bool.{cond}
use mathlib.Core.List.{List, [], ◌∷◌}
use Prim.Native.Nat.{ℕ, ◌≤◌}
use native.Mathlib.Omega.{arith}
use borrow.Author.Tests.{le-leb, lt-leb}
use lib.Dec.{leb}
use lib.ListN.{length}
use Rattle.std.specs.Prelude.{Result, Ok, Err}
use Rattle.refusal.specs.declared.Cause.TheVariants.{NoRounds}
use Rattle.refusal.specs.declared.Refusal.{Refusal}
use Rattle.network.specs.Build.{cells}
use Rattle.network.specs.WellFormed.{WellFormed}
use Rattle.network.specs.declared.Network.{Network}
use Rattle.solver.specs.Stopped.{stops, floor_after, left}
use Rattle.solver.specs.Within.{WithinIs}
use Rattle.solver.specs.declared.Inconsistent.{Inconsistent as NoTable}
use Rattle.solver.specs.declared.Outcome.{Outcome}
use Rattle.solver.specs.declared.Outcome.TheVariants as outcome
use Rattle.solver.proofs.Stopped.{length-floor}
use Rattle.solver.proofs.Within.{are_stopped, stops-true, stops-false, solved_plain, enough_of, fewer_of}
use Rattle.calls.specs.Call.{without_line_lem, Tests, Left, Leaves}
use Rattle.calls.specs.Lent.{Lent, in_place_lem}
use Rattle.calls.specs.Counting.{OrUnsolved, counting}
use Rattle.calls.specs.Within.{OrProgress, finished_as, unrun, stopping, finishing, within}
use Rattle.calls.specs.declared.Progress.TheVariants.{Finished, Stopped}
use Rattle.opening.specs.Prologue.{lent_for_lem, unsolved}
use Rattle.opening.proofs.Prologue.{opened-refused, opened_fails, opened_works}
use Rattle.opening.proofs.SolverLeaves.{room_test, solving_consistent, solving-none}

module _ (sheet m : List ℕ) (n : ℕ) where
  abbrev lent : Lent
  lent = in_place_lem m

  abbrev rest : Network → Tests
  rest Γ = (leb 1 n, without_line_lem NoRounds) ∷ []

  abbrev work : Network → Left OrProgress
  work Γ = cond (stops Γ n) (stopping sheet n lent Γ) (finishing sheet n lent)

  -- refused before any round
  abbrev answered : Refusal → OrProgress
  answered r = Err (record { refusal = r; rounds = 0 })

  pub within-refused : (r : Refusal) → lent_for_lem sheet (length m) ≡ Err r → Leaves (within sheet n m) (answered r) m
  within-refused r q =
      rw (← opened-refused sheet (room_test sheet m) (unrun sheet n lent) rest work r q)
      (record { answer = refl; memory = refl })

  module _ (Γ : Network) (q : lent_for_lem sheet (length m) ≡ Ok Γ) where
    pub within_zero : n ≡ 0 → Leaves (within sheet n m) (answered (without_line_lem NoRounds)) m
    within_zero z =
        rw (← opened_fails sheet (room_test sheet m) (unrun sheet n lent) rest work Γ q _
        (inl (lt-leb 1 n (omega arith), refl)))
        (record { answer = refl; memory = refl })

    module _ (w : WellFormed Γ) (some : 1 ≤ n) {x : List ℕ} {s : Result Outcome NoTable} (is : WithinIs Γ n m x s) where
      works : work Γ ≡ within sheet n m
      works = opened_works sheet (room_test sheet m) (unrun sheet n lent) rest work Γ q (le-leb 1 n some, tt)

      -- it finished: what solving leaves
      as_solving : are_stopped s ≡ 0 → {r : OrUnsolved} → Leaves (counting sheet m) r x
          → Leaves (within sheet n m) (finished_as r) x
      as_solving z h =
          let e : finishing sheet n lent ≡ within sheet n m = rw (stops-false Γ n (enough_of Γ n is z)) at works in
          rw (← e) (record { answer = ap finished_as h.answer; memory = h.memory })

      pub within_finished : (k : ℕ) → s ≡ Ok (outcome.Finished k)
          → Leaves (within sheet n m) (Ok (Finished (record { minutes = cells Γ; rounds = k }))) x
      within_finished k p =
          let z : are_stopped s ≡ 0 = ap are_stopped p in
          as_solving z
          (solving_consistent sheet m Γ q w (rw p at (solved_plain Γ n (enough_of Γ n is z) is)) k refl)

      pub within_none : (i : NoTable) → s ≡ Err i → Leaves (within sheet n m) (Err (unsolved i)) x
      within_none i p =
          let z : are_stopped s ≡ 0 = ap are_stopped p in
          as_solving z
          (solving-none sheet m Γ q w (rw p at (solved_plain Γ n (enough_of Γ n is z) is)) i refl)

      pub within_stopped : (l : ℕ) → s ≡ Ok (outcome.Stopped l)
          → Leaves (within sheet n m) (Ok (Stopped (record { minutes = cells Γ; left = l }))) x
      within_stopped l p =
          let stop = stops-true Γ n (fewer_of Γ n is (ap are_stopped p)) in
          let e : stopping sheet n lent Γ ≡ within sheet n m = rw stop at works in
          let answer : s ≡ Ok (outcome.Stopped (left Γ (floor_after Γ n))) = is.answer ∙ rw stop refl in
          let rise : l ≡ left Γ (floor_after Γ n) = let z = sym p ∙ answer in cc in
          rw (← e) (record { answer = rw (length-floor Γ n, rise) refl; memory = is.table ∙ rw stop refl })
