-- What solving within n rounds answers: its refusals, a floor where it is stopped, and otherwise what solving does. One
-- argument for memory that is lent as minutes and as bytes. Assumes nothing.
use mathlib.Core.Path.{◌≡◌, refl, sym, ◌∙◌, ap}
use mathlib.Core.Logic.{◌↔◌}
use mathlib.Core.Bool.{false, ◌||◌}
use mathlib.Core.List.{List}
use Prim.Native.Nat.{ℕ, ◌≤◌, ◌<◌}
use native.Mathlib.Omega.{arith}
use borrow.Author.Tests.{leb-false, lt-leb, ne_eqb}
use Rattle.std.specs.Prelude.{Ok, Err}
use Rattle.prelude.proofs.Tests.{or-false, or_neither}
use Rattle.fixpoint.proofs.Takes.{takes_once}
use Rattle.network.specs.Build.{cells}
use Rattle.network.specs.Least.{Inconsistent}
use Rattle.network.specs.WellFormed.{WellFormed}
use Rattle.network.specs.declared.Network.{Network}
use Rattle.sheet.specs.Reading.{network_of, Accepts}
use Rattle.sheet.proofs.WellFormed.{accepted_well_formed}
use Rattle.solver.specs.Solve.{solve}
use Rattle.solver.specs.Rounds.{TakesRounds}
use Rattle.solver.specs.Stopped.{stops, floor_after, left, FloorAfter}
use Rattle.solver.proofs.Rounds.{solve_ends, counted}
use Rattle.solver.proofs.Stopped.{floor_known}
use Rattle.solver.proofs.Within.{stops-false, stops-enough}
use Rattle.calls.specs.Values.{OrRefusal, number_values}
use Rattle.calls.specs.Call.{Left}
use Rattle.calls.specs.Lent.{Lent}
use Rattle.calls.specs.Calls.{rests, writing, solving_into}
use Rattle.calls.specs.Counting.{counted_as, rounds_taken}
use Rattle.calls.specs.Within.{OrProgress, NoRound, Finishes, Stops, progress_values, reach_of}
use Rattle.calls.specs.Within.{finished_as, within_into}
use Rattle.calls.specs.Answers.{AnswersInto, WroteInto}
use Rattle.calls.specs.Numbers.{solves_within}
use Rattle.calls.specs.StopsEarly.{Runs, StopsAfter, AsWithout, FinishesWithin, MakesNoRound}
use Rattle.calls.proofs.Matched.{unlined, writes_call}
use Rattle.calls.proofs.Solving.{unrested, refuses_13, solves-least}
use Rattle.calls.proofs.Writing.{wrote_into}
use Rattle.calls.proofs.Counting.{answer-counted, rounds-solved, answered}
use Rattle.calls.proofs.Within.{Made, Came, refused, stopped, finished, came, tests, text}
use Rattle.calls.proofs.Within.{written-finished, written-same, memory-same}

reach-finished : (k : ℕ) (a : OrRefusal ℕ) → 1 ≤ k → reach_of (finished_as (counted_as k a)) ≡ Finishes k
reach-finished k (Ok n) some = refl
reach-finished k (Err r) some = rw (ne_eqb k 0 (λ z. omega arith)) refl

module _ (sheet : List ℕ) (n : ℕ) (m : Lent) where
  abbrev net : Network
  net = network_of sheet

  abbrev whole : Left OrProgress
  whole = within_into sheet n m

  -- 13 comes exactly where no good table exists and n rounds are enough to tell
  none_within : Accepts sheet
      → (stops net n || rests (solve net).end ≡ false)
      ↔ (Inconsistent net × ((k : ℕ) → TakesRounds net k → k ≤ n))
  none_within a = (
    λ e.
        let both = or-false (stops net n) (rests (solve net).end) e in (
          (unrested sheet m a).0 both.1,
          λ k t.
              omega (arith, takes_once t (solve_ends net).takes, stops-enough net n both.0),
        ),
    λ i.
        or_neither (stops net n) (rests (solve net).end)
        (stops-false net n (i.1 (solve net).rounds (solve_ends net).takes)) ((unrested sheet m a).1 i.0),
  )

  pub within_writes : AnswersInto sheet (solves_within n m.room) m.before (progress_values whole.answer) whole.memory
  within_writes =
      rw (written-same sheet n m, memory-same sheet n m)
      (writes_call m sheet (tests sheet n m) (λ Γ. writing m (text sheet n m Γ)) (solves_within n m.room) refl
      (λ a. (
        λ _. unlined refl refl,
        (leb-false (cells net) m.room, lt-leb (cells net) m.room),
        λ _. (
          λ _. unlined refl refl,
          (λ e. omega (arith, leb-false 1 n e), λ z. lt-leb 1 n (omega arith)),
          λ _. (λ _. unlined refl refl, none_within a, λ _. tt),
        ),
      ))
      (λ Γ. (refl, refl)))

  -- of a sheet of which rounds are made
  module _ (d : Made sheet n m) where
    wf : WellFormed net
    wf = (accepted_well_formed sheet d.accepted).0

    pub record Floored : Type 0 where
      pub floor : FloorAfter net n (floor_after net n)
      pub reach : reach_of whole.answer ≡ Stops (left net (floor_after net n))
      pub wrote : WroteInto (floor_after net n) m (progress_values whole.answer) whole.memory

    floored : n < (solve net).rounds → Floored
    floored h = by_came (came sheet n m)
      where
        by_came : Came sheet n m → Floored
        by_came (refused r made e f) = absurd (made d)
        by_came (stopped made l e f) =
            record {
              floor = floor_known net n wf l;
              reach = rw (← e) refl;
              wrote = rw (← e) (record { answer = refl; memory = refl });
            }
        by_came (finished made g e f) = absurd (omega (arith, g))

    pub unstopped : (solve net).rounds ≤ n → AsWithout sheet n m (progress_values whole.answer) (reach_of whole.answer)
        whole.memory (solve net).rounds
    unstopped h = by_came (came sheet n m)
      where
        by_came : Came sheet n m → AsWithout sheet n m (progress_values whole.answer) (reach_of whole.answer)
            whole.memory (solve net).rounds
        by_came (refused r made e f) = absurd (made d)
        by_came (stopped made l e f) = absurd (omega (arith, l))
        by_came (finished made g e f) =
            let a = (solving_into sheet m).answer in
            let k = rounds_taken sheet m in
            let made_all : k ≡ (solve net).rounds = rounds-solved sheet m net d.accepted d.room in
            rw (← e) (record {
              reach =
                  reach-finished k a (omega (arith, made_all, (counted net).some))
                  ∙ ap (λ (x : ℕ). Finishes x) made_all;
              answer = ap number_values (written-finished (counted_as k a));
              memory = refl;
            })

  -- as the contract has it, of whichever network the sheet is read into
  module _ {Γ : Network} {k : ℕ} (r : Runs sheet n m Γ k) where
    made_of : Made sheet n m
    made_of = record { accepted = r.reads.accepted; room = rw (← r.reads.network) at r.room; some = r.some }

    count_of : k ≡ (solve net).rounds
    count_of = takes_once (rw (← r.reads.network) at r.takes) (solve_ends net).takes

    as_without : k ≤ n
        → AsWithout sheet n m (progress_values whole.answer) (reach_of whole.answer) whole.memory k
    as_without h = rw (← count_of) at (unstopped made_of (omega (arith, count_of)))

    -- its answer without the count
    plain : k ≤ n → progress_values whole.answer ≡ number_values (solving_into sheet m).answer
    plain h =
        (as_without h).answer
        ∙ ap number_values (answer-counted (rounds_taken sheet m) (solving_into sheet m).answer)

  pub stops_after : StopsAfter sheet n m (progress_values whole.answer) (reach_of whole.answer) whole.memory
  stops_after Γ k r h =
      let f = floored (made_of r) (omega (arith, count_of r)) in
      rw (← r.reads.network) (floor_after net n, f.floor, f.reach, f.wrote)

  pub finishes_within : FinishesWithin sheet n m (progress_values whole.answer) (reach_of whole.answer) whole.memory
  finishes_within = record {
    as_without = λ Γ k r h. as_without r h;
    none = λ Γ k r h.
        let d = made_of r in rw (← r.reads.network, plain r h) (refuses_13 sheet m d.accepted d.room);
    least = λ Γ k r h consistent.
        let d = made_of r in
        let s = solves-least sheet m d.accepted d.room (rw (← r.reads.network) at consistent) in
        let wrote = wrote_into m s.0 (sym {b = writing m s.0} s.2) in
        rw (← r.reads.network, plain r h, (as_without r h).memory) (s.0, s.1, wrote);
  }

  pub makes_no_round : MakesNoRound (progress_values whole.answer) (reach_of whole.answer)
  makes_no_round some none = by_came some none (came sheet n m)
    where
      by_came : ((progress_values whole.answer).number ≡ 0 → ⊥) → ((progress_values whole.answer).number ≡ 13 → ⊥)
          → Came sheet n m → reach_of whole.answer ≡ NoRound
      by_came some none (refused r made e f) = rw (← e) refl
      by_came some none (stopped made l e f) = absurd (some (rw (← e) refl))
      by_came some none (finished made g e f) =
          let same : progress_values whole.answer ≡ number_values (solving_into sheet m).answer =
          ap number_values (written-same sheet n m ∙ ap (λ (l : Left (OrRefusal ℕ)). l.answer) (sym f)) in
          absurd (answered sheet m made.accepted made.room (rw same at some) (rw same at none))

-- memory that has room alike, in which a run comes as far
pub reach-alike : (sheet : List ℕ) (n : ℕ) (m l : Lent) → (Made sheet n m → Made sheet n l)
    → (Made sheet n l → Made sheet n m)
    → reach_of (within_into sheet n m).answer ≡ reach_of (within_into sheet n l).answer
reach-alike sheet n m l on back = by_came (came sheet n m) (came sheet n l)
  where
    by_came : Came sheet n m → Came sheet n l
        → reach_of (within_into sheet n m).answer ≡ reach_of (within_into sheet n l).answer
    by_came (refused r d e f) (refused r' d' e' f') = rw (← e, ← e') refl
    by_came (refused r d e f) (stopped d' h e' f') = absurd (d (back d'))
    by_came (refused r d e f) (finished d' g e' f') = absurd (d (back d'))
    by_came (stopped d h e f) (refused r d' e' f') = absurd (d' (on d))
    by_came (stopped d h e f) (stopped d' h' e' f') = rw (← e, ← e') refl
    by_came (stopped d h e f) (finished d' g e' f') = absurd (omega (arith, h, g))
    by_came (finished d g e f) (refused r d' e' f') = absurd (d' (on d))
    by_came (finished d g e f) (stopped d' h e' f') = absurd (omega (arith, g, h))
    by_came (finished d g e f) (finished d' g' e' f') =
        (unstopped sheet n m d g).reach ∙ sym (unstopped sheet n l d' g').reach
