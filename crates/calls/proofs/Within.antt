-- Solving within n rounds is refused before any round, or is stopped and hands out a floor, or answers as solving does.
-- One argument for memory that is lent as minutes and as bytes. Assumes nothing.
use mathlib.Core.Path.{◌≡◌, refl, sym, ◌∙◌, ap}
use mathlib.Core.Logic.{◌⊎◌, inl, inr}
use mathlib.Core.Bool.{◌||◌, cond}
use mathlib.Core.List.{[], ◌∷◌, List}
use Prim.Native.Nat.{ℕ, ◌≤◌, ◌<◌}
use borrow.Author.Tests.{leb-true, le-leb}
use lib.Dec.{leb}
use Rattle.std.specs.Prelude.{Ok, Err}
use Rattle.prelude.specs.Checks.{Hold, FirstFails}
use Rattle.prelude.proofs.Tests.{zero-is-one, clash, lt_or_ge}
use Rattle.refusal.specs.declared.Cause.TheVariants.{NoRounds, Inconsistent}
use Rattle.refusal.specs.declared.Refusal.{Refusal}
use Rattle.network.specs.Build.{cells}
use Rattle.network.specs.declared.Network.{Network}
use Rattle.sheet.specs.Reading.{network_of, Accepts}
use Rattle.solver.specs.Solve.{solve, found}
use Rattle.solver.specs.Stopped.{stops, floor_after}
use Rattle.solver.proofs.Within.{stops-true, stops-false}
use Rattle.calls.specs.Values.{OrRefusal}
use Rattle.calls.specs.Call.{without_line_lem, Tests, call, Left, Leaves}
use Rattle.calls.specs.Lent.{Lent}
use Rattle.calls.specs.Calls.{enough, writing, refusing, rests, solving_tests, solving_into}
use Rattle.calls.specs.Counting.{OrUnsolved, answer_of, rounds_taken, counting_into}
use Rattle.calls.specs.Within.{OrProgress, written_of, finished_as, unrun}
use Rattle.calls.specs.Within.{tests_within, stopping, finishing, within_into}
use Rattle.calls.proofs.Call.{Ends, faulty, failed, worked, ends, call-refused, call_fails, call_works, call-alike}
use Rattle.calls.proofs.Counting.{answer-counted}

-- what goes in without n comes out of it
pub written-finished : (r : OrUnsolved) → written_of (finished_as r) ≡ answer_of r
written-finished (Ok s) = refl
written-finished (Err u) = refl

module _ (sheet : List ℕ) (n : ℕ) (m : Lent) where
  abbrev net : Network
  net = network_of sheet

  abbrev whole : Left OrProgress
  whole = within_into sheet n m

  -- the same call without how far the run came: 13 is the last of its tests
  abbrev pub tests : Network → Tests
  tests Γ =
      enough m (cells Γ)
      ∷ (leb 1 n, without_line_lem NoRounds)
      ∷ (stops Γ n || rests (solve Γ).end, without_line_lem Inconsistent)
      ∷ []

  abbrev pub text : Network → List ℕ
  text Γ = cond (stops Γ n) (floor_after Γ n) (found Γ)

  abbrev pub written_into : Left (OrRefusal ℕ)
  written_into = call (refusing m) sheet tests (λ Γ. writing m (text Γ))

  -- rounds are made of this sheet
  pub record Made : Type 0 where
    pub accepted : Accepts sheet
    pub room : cells net ≤ m.room
    pub some : 1 ≤ n

  pub data Came : Type 0 where
    refused : (r : Refusal) → (Made → ⊥) → unrun sheet n m r ≡ whole → refusing m r ≡ written_into → Came
    stopped : Made → n < (solve net).rounds → stopping sheet n m net ≡ whole
        → writing m (floor_after net n) ≡ written_into → Came
    finished : Made → (solve net).rounds ≤ n → finishing sheet n m ≡ whole → solving_into sheet m ≡ written_into → Came

  fails_too : (r : Refusal) → FirstFails (tests_within sheet n m net) r → FirstFails (tests net) r
  fails_too r (inl f) = inl f
  fails_too r (inr (h, inl f)) = inr (h, inl f)
  fails_too r (inr (h, inr f)) = absurd f.1

  not_made : (r : Refusal) → FirstFails (tests_within sheet n m net) r → Made → ⊥
  not_made r (inl f) d = clash (leb (cells net) m.room) (le-leb (cells net) m.room d.room) f.0
  not_made r (inr (h, inl f)) d = clash (leb 1 n) (le-leb 1 n d.some) f.0
  not_made r (inr (h, inr f)) d = absurd f.1

  pub came : Came
  came = by_end (ends (unrun sheet n m) sheet (tests_within sheet n m)
      (λ Γ. cond (stops Γ n) (stopping sheet n m Γ) (finishing sheet n m)))
    where
      by_order : (d : Made)
          → cond (stops net n) (stopping sheet n m net) (finishing sheet n m) ≡ whole
          → (n < (solve net).rounds) ⊎ ((solve net).rounds ≤ n) → Came
      by_order d e (inl l) =
          let s = stops-true net n l in
          let holds : Hold (tests net) =
          (le-leb (cells net) m.room d.room, (le-leb 1 n d.some, (rw s refl, tt))) in
          let works = call_works (refusing m) sheet tests (λ Γ. writing m (text Γ)) net d.accepted holds in
          stopped d l (rw s at e) (rw s at works)
      by_order d e (inr g) =
          let s = stops-false net n g in
          finished d g (rw s at e)
          (call-alike (refusing m) sheet (solving_tests m) tests (λ Γ. writing m (found Γ)) (λ Γ. writing m (text Γ))
          (λ a. rw (le-leb 1 n d.some, s) refl) (λ a h. rw s refl))

      by_end : Ends (unrun sheet n m) sheet (tests_within sheet n m)
          (λ Γ. cond (stops Γ n) (stopping sheet n m Γ) (finishing sheet n m)) → Came
      by_end (faulty r p e) =
          refused r (λ d. let z = sym p ∙ d.accepted in zero-is-one cc) e
          (call-refused (refusing m) sheet tests (λ Γ. writing m (text Γ)) r p)
      by_end (failed a r f e) =
          refused r (not_made r f) e
          (call_fails (refusing m) sheet tests (λ Γ. writing m (text Γ)) net a r (fails_too r f))
      by_end (worked a h e) =
          by_order (record {
            accepted = a;
            room = leb-true (cells net) m.room h.0;
            some = leb-true 1 n h.1.0;
          })
          e (lt_or_ge n (solve net).rounds)

  -- it writes the same, and is refused for the same
  pub written-same : written_of whole.answer ≡ written_into.answer
  written-same = by_came came
    where
      by_came : Came → written_of whole.answer ≡ written_into.answer
      by_came (refused r d e f) = rw (← e, ← f) refl
      by_came (stopped d l e f) = rw (← e, ← f) refl
      by_came (finished d g e f) =
          rw (← e, ← f)
          (written-finished (counting_into sheet m).answer
          ∙ answer-counted (rounds_taken sheet m) (solving_into sheet m).answer)

  pub memory-same : whole.memory ≡ written_into.memory
  memory-same = by_came came
    where
      by_came : Came → whole.memory ≡ written_into.memory
      by_came (refused r d e f) = rw (← e, ← f) refl
      by_came (stopped d l e f) = rw (← e, ← f) refl
      by_came (finished d g e f) = rw (← e, ← f) refl

  pub within_left : {r : OrProgress} {x : List ℕ} → Leaves whole r x → Leaves written_into (written_of r) x
  within_left h = record {
    answer = ap written_of h.answer ∙ written-same;
    memory = h.memory ∙ memory-same;
  }
