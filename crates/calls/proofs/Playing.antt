-- What holds of the call that plays a table (`Playing`): with a good table it answers what is due, by the laws of the
-- crate dispatch. Assumes nothing.
use mathlib.Core.Path.{◌≡◌, refl, sym, ◌∙◌, ap}
use mathlib.Core.Logic.{◌↔◌}
use mathlib.Core.Bool.{true}
use mathlib.Core.List.{List}
use Prim.Native.Nat.{ℕ, ◌+◌, ◌≤◌, ◌<◌}
use native.Mathlib.Omega.{arith}
use lib.ListN.{length}
use Rattle.std.specs.Prelude.{Ok, Err, Result}
use Rattle.network.specs.Build.{observation, scenarios, cells}
use Rattle.network.specs.Scenario.{truth}
use Rattle.network.specs.Strategy.{reaction, known}
use Rattle.network.specs.Solution.{Solution}
use Rattle.network.specs.WellFormed.{WellFormed}
use Rattle.network.specs.declared.Network.{Network}
use Rattle.sheet.specs.Reading.{network_of}
use Rattle.checker.specs.Verdict.{verdict}
use Rattle.checker.specs.declared.Verdict.TheVariants.{Pass}
use Rattle.checker.proofs.Judged.{judged}
use Rattle.dispatch.specs.Heard.{Lettered}
use Rattle.dispatch.specs.History.{History, history_of}
use Rattle.dispatch.specs.Due.{is_due_lem, due_in_lem, due}
use Rattle.dispatch.specs.declared.Heard.{Heard}
use Rattle.dispatch.specs.declared.Unanswered.{Unanswered}
use Rattle.dispatch.proofs.Bits.{mask_small, truth-mask}
use Rattle.dispatch.proofs.Alike.{indistinct_comm, indistinct_history, indistinct_due}
use Rattle.dispatch.proofs.WasDue.{known_was_due}
use Rattle.dispatch.proofs.Answers.{due_history}
use Rattle.dispatch.proofs.HistoryOf.{history_of_lem}
use Rattle.calls.specs.Answers.{Reads}
use Rattle.calls.specs.Lent.{as_minutes}
use Rattle.calls.specs.Play.{events_of, playing_tests, events_due_lem}
use Rattle.calls.specs.Playing.{RowAt, answer, Plays, Playing}
use Rattle.calls.proofs.Call.{call_works, reads_well_formed}
use Rattle.calls.proofs.Handed.{minutes_rightly}
use Rattle.calls.proofs.Play.{lettered, events-due-said}

-- a table that passes is played
events_of_lem : (sheet t : List ℕ) (Γ : Network) → Reads sheet Γ → (m : ℕ) (hs : List Heard) (x : ℕ)
    → verdict Γ t ≡ Pass → length t ≡ cells Γ → due Γ t m hs ≡ Ok x → events_due_lem sheet t m hs ≡ Ok x
unfolding events_due_lem
events_of_lem sheet t Γ reads m hs x =
    rw (← reads.network) (λ p e d.
    sym (call_works Err sheet (playing_tests (as_minutes t) (λ Γ. due Γ t m hs))
    (λ Γ. Ok (events_of (due Γ t m hs))) (network_of sheet) reads.accepted
    ((minutes_rightly t (network_of sheet)).yes.1 e, (rw p, (rw d, (rw d, tt)))))
    ∙ ap (λ (y : Result ℕ Unanswered). Ok (events_of y)) d)

module _ (sheet t : List ℕ) (Γ : Network) (reads : Reads sheet Γ) where
  wf : WellFormed Γ
  wf = reads_well_formed reads

  letters : Lettered Γ
  letters = rw (← reads.network) (lettered sheet reads.accepted)

  module _ (good : Solution Γ t) where
    -- whoever has heard the list has the events that are answered
    events-are : (m : ℕ) (hs : List Heard) (s : ℕ) → s < scenarios Γ → History Γ t m hs s
        → events_due_lem sheet t m hs ≡ Ok (due_in_lem Γ t m s)
    events-are m hs s h l = events_of_lem sheet t Γ reads m hs (due_in_lem Γ t m s)
        ((judged Γ t good.sized).1 good) good.sized (due_history Γ t m letters hs good wf s h l)

    due-at : (m s u : ℕ) → u < Γ.events → truth (due_in_lem Γ t m s) u ≡ is_due_lem Γ t m s u
    due-at m s u k = truth-mask (is_due_lem Γ t m s) Γ.events u k (omega (arith, wf.events))

    row_at : (m : ℕ) (hs : List Heard) (s : ℕ) → s < scenarios Γ → History Γ t m hs s
        → RowAt Γ t m s (answer sheet t m hs)
    row_at m hs s h l = rw (events-are m hs s h l) (record {
      number = refl;
      line = refl;
      each = due-at m s;
      no_more = mask_small (is_due_lem Γ t m s) Γ.events;
    })

    own : (m s : ℕ) → History Γ t m (history_of Γ t m s) s
    own m s = history_of_lem Γ t m letters s

    heard : (m s p : ℕ) → s < scenarios Γ → p < Γ.signals
        → (known Γ t s p m ≡ true)
        ↔ ((i : ℕ) × (i + reaction Γ p ≤ m) ×
        (truth (answer sheet t i (history_of Γ t i s)).value (observation Γ p) ≡ true))
    heard m s p h l =
        let o = observation Γ p in
        let told : (i : ℕ) → truth (answer sheet t i (history_of Γ t i s)).value o ≡ is_due_lem Γ t i s o =
        λ i. (row_at i (history_of Γ t i s) s h (own i s)).each o (wf.observed p l) in
        let was = known_was_due Γ t m s p in (
          λ k. let w = was.0 k in (w.0, w.1, told w.0 ∙ w.2),
          λ w. was.1 (w.0, w.1, sym (told w.0) ∙ w.2),
        )

    same : (m : ℕ) (hs : List Heard) (s r u : ℕ) → s < scenarios Γ → r < scenarios Γ → u < Γ.events
        → History Γ t m hs s → History Γ t m hs r → is_due_lem Γ t m s u ≡ is_due_lem Γ t m r u
    same m hs s r u h k l a b = sym ((row_at m hs s h a).each u l) ∙ (row_at m hs r k b).each u l

    plays : Plays sheet t Γ
    plays = record {
      row = λ m s h. row_at m (history_of Γ t m s) s h (own m s);
      heard = heard;
      same = same;
      unheard = λ m s r h k i. (
        λ hs. (
          indistinct_history Γ t m good wf h k i letters hs,
          indistinct_history Γ t m good wf k h (indistinct_comm Γ t m good wf h k i) letters hs,
        ),
        events-are m (history_of Γ t m s) s h (own m s)
            ∙ (ap Ok (indistinct_due Γ t m good wf h k i) ∙ sym (events-are m (history_of Γ t m r) r k
            (own m r))),
      );
    }

pub playing : Playing
playing = record {
  due = λ sheet t m hs Γ reads right good. row_at sheet t Γ reads good m hs;
  plays = plays;
  by_mask = events-due-said;
}
