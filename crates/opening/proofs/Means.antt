-- What each call's answer means, once it is the defined one: the clauses of its contract. Assumes nothing.
use mathlib.Core.Path.{◌≡◌, refl, sym, ◌∙◌, ap}
use mathlib.Core.List.{List, []}
use Prim.Native.Nat.{ℕ}
use lib.ListN.{length}
use Rattle.checker.specs.declared.Verdict.{Verdict}
use Rattle.dispatch.specs.Said.{said_from}
use Rattle.dispatch.specs.declared.Heard.{Heard}
use Rattle.sheet.specs.Reading.{network_of}
use Rattle.calls.specs.Values.{OrRefusal, number_values}
use Rattle.calls.specs.Call.{Leaves}
use Rattle.calls.specs.Lent.{as_minutes, in_place_lem}
use Rattle.calls.specs.Calls.{summary, no_counts, summary_values, judgement, listed, housed, converting, ringing}
use Rattle.calls.specs.Counting.{OrUnsolved, solved_values, rounds_of, counting}
use Rattle.calls.specs.Within.{OrProgress, within, progress_values, reach_of}
use Rattle.calls.specs.Play.{events_due_lem, events_due_on_lem}
use Rattle.calls.specs.Recover.{recovering}
use Rattle.calls.specs.Bench.{no_finding, judgement_values}
use Rattle.calls.specs.Answers.{Answers, AnswersInto}
use Rattle.calls.specs.Numbers.{minutes, judges, solves, solves_within, lists, houses, recovers, plays}
use Rattle.calls.specs.Numbers.{misnamed_by, unheard_by, misnamed_on, unheard_on}
use Rattle.calls.specs.Reader.{AcceptsLayout, RefusesFault, CountsContents}
use Rattle.calls.specs.Judges.{Passes, Breaches}
use Rattle.calls.specs.Solves.{RefusesNone, WritesLeast, CountsRounds}
use Rattle.calls.specs.StopsEarly.{StopsAfter, FinishesWithin, MakesNoRound}
use Rattle.calls.specs.Lists.{WritesListing}
use Rattle.calls.specs.ReadingBack.{ReadsBack}
use Rattle.calls.specs.Playing.{TellsRow}
use Rattle.calls.specs.Housing.{WritesForm}
use Rattle.calls.specs.Converting.{AnswersFormer, WritesConverted}
use Rattle.calls.specs.Ringing.{AnswersRing, WritesHeaviest}
use Rattle.calls.specs.declared.Counts.{Counts}
use Rattle.calls.proofs.Numbers.{numbers}
use Rattle.calls.proofs.Demands.{demands}
use Rattle.calls.proofs.Playing.{playing}
use Rattle.calls.proofs.Handed.{minutes_rightly}
use Rattle.calls.proofs.Counting.{uncounted, rounds-left}
use Rattle.calls.proofs.Clauses.{judge-clauses, list-clauses, solve-clauses, within-clauses, recover-clauses}
use Rattle.calls.proofs.Clauses.{house-clauses, convert-clauses, ring-clauses}

module _ (sheet : List ℕ) where
  pub read_means : (r : OrRefusal Counts) → r ≡ summary sheet
      → record {
        outcome : r ≡ summary sheet;
        accepted : AcceptsLayout sheet r;
        faults : RefusesFault sheet r;
        counts : CountsContents sheet r;
        refusals : Answers sheet [] no_counts (summary_values r);
      }
  read_means r e =
      rw e (record {
        outcome = refl;
        accepted = demands.reads sheet;
        faults = demands.faults sheet;
        counts = demands.counts sheet;
        refusals = numbers.reader sheet;
      })

  module _ (t : List ℕ) where
    pub judge_means : (r : OrRefusal Verdict) → r ≡ judgement sheet t
        → record {
          outcome : r ≡ judgement sheet t;
          refusals : Answers sheet (judges (minutes t)) no_finding (judgement_values r);
          passes : Passes sheet (minutes t) t (judgement_values r);
          breaches : Breaches sheet (minutes t) t (judgement_values r);
        }
    judge_means r e =
        let w = judge-clauses sheet (as_minutes t) (minutes t) (minutes_rightly t (network_of sheet)) _
        (ap judgement_values e) in
        record { outcome = e; refusals = w.refusals; passes = w.passes; breaches = w.breaches }

    pub due_means : (m : ℕ) (hs : List Heard) (r : OrRefusal ℕ) → r ≡ events_due_lem sheet t m hs
        → record {
          outcome : r ≡ events_due_lem sheet t m hs;
          refusals : Answers sheet (plays (minutes t) t (misnamed_by hs) (unheard_by t m hs)) 0 (number_values r);
          row : TellsRow sheet (minutes t) t m hs (number_values r);
        }
    due_means m hs r e =
        rw e (record { outcome = refl; refusals = numbers.player sheet t m hs; row = playing.due sheet t m hs })

    pub due_on_means : (m x : ℕ) (r : OrRefusal ℕ) → r ≡ events_due_on_lem sheet t m x
        → record {
          outcome : r ≡ events_due_on_lem sheet t m x;
          refusals : Answers sheet (plays (minutes t) t (misnamed_on x) (unheard_on t m x)) 0 (number_values r);
          row : (hs : List Heard) → said_from 0 hs ≡ x → TellsRow sheet (minutes t) t m hs (number_values r);
        }
    due_on_means m x r e = record {
      outcome = e;
      refusals = rw e (numbers.player_on sheet t m x);
      row = λ hs s.
          rw (e ∙ ap (events_due_on_lem sheet t m) (sym s) ∙ playing.by_mask sheet t m hs) (playing.due sheet t m hs);
    }

    pub list_means : (m : List ℕ) (r : OrRefusal ℕ) (x : List ℕ) → Leaves (listed sheet t m) r x
        → record {
          outcome : Leaves (listed sheet t m) r x;
          refusals : AnswersInto sheet (lists (minutes t) sheet t m) m (number_values r) x;
          lists : WritesListing sheet (minutes t) t (in_place_lem m) (number_values r) x;
        }
    list_means m r x h =
        let w = list-clauses sheet (as_minutes t) (minutes t) (minutes_rightly t (network_of sheet)) m _ x
        (ap number_values h.answer) h.memory in
        record { outcome = h; refusals = w.refusals; lists = w.lists }

  pub solve_means : (m : List ℕ) (r : OrUnsolved) (x : List ℕ) → Leaves (counting sheet m) r x
      → record {
        outcome : Leaves (counting sheet m) r x;
        refusals : AnswersInto sheet (solves (length m)) m (solved_values r) x;
        none : RefusesNone sheet (in_place_lem m) (solved_values r);
        least : WritesLeast sheet (in_place_lem m) (solved_values r) x;
        rounds : CountsRounds sheet (in_place_lem m) (solved_values r) (rounds_of r);
      }
  solve_means m r x h =
      let w = solve-clauses sheet (in_place_lem m) (solved_values r) (rounds_of r) x
      (ap number_values (uncounted sheet (in_place_lem m) h).answer) (rounds-left sheet (in_place_lem m) h) h.memory in
      record { outcome = h; refusals = w.refusals; none = w.none; least = w.least; rounds = w.rounds }

  pub within_means : (n : ℕ) (m : List ℕ) (r : OrProgress) (x : List ℕ) → Leaves (within sheet n m) r x
      → record {
        outcome : Leaves (within sheet n m) r x;
        refusals : AnswersInto sheet (solves_within n (length m)) m (progress_values r) x;
        stopped : StopsAfter sheet n (in_place_lem m) (progress_values r) (reach_of r) x;
        finished : FinishesWithin sheet n (in_place_lem m) (progress_values r) (reach_of r) x;
        no_round : MakesNoRound (progress_values r) (reach_of r);
      }
  within_means n m r x h =
      let w = within-clauses sheet n (in_place_lem m) (progress_values r) (reach_of r) x (ap progress_values h.answer)
      (ap reach_of h.answer) h.memory in
      record {
        outcome = h;
        refusals = w.refusals;
        stopped = w.stopped;
        finished = w.finished;
        no_round = w.no_round;
      }

  module _ (m : List ℕ) (r : OrRefusal ℕ) (x : List ℕ) where
    pub recover_means : (printed : List ℕ) → Leaves (recovering sheet printed m) r x
        → record {
          outcome : Leaves (recovering sheet printed m) r x;
          refusals : AnswersInto sheet (recovers sheet printed (length m)) m (number_values r) x;
          reads_back : ReadsBack sheet printed (in_place_lem m) (number_values r) x;
        }
    recover_means printed h =
        let w = recover-clauses sheet printed (in_place_lem m) _ x (ap number_values h.answer) h.memory in
        record { outcome = h; refusals = w.refusals; reads_back = w.reads_back }

    pub house_means : Leaves (housed sheet m) r x
        → record {
          outcome : Leaves (housed sheet m) r x;
          refusals : AnswersInto sheet (houses sheet m) m (number_values r) x;
          form : WritesForm sheet (in_place_lem m) (number_values r) x;
        }
    house_means h =
        let w = house-clauses sheet m _ x (ap number_values h.answer) h.memory in
        record { outcome = h; refusals = w.refusals; form = w.form }

    pub convert_means : Leaves (converting sheet m) r x
        → record {
          outcome : Leaves (converting sheet m) r x;
          refusals : AnswersFormer sheet m (number_values r) x;
          converted : WritesConverted sheet (in_place_lem m) (number_values r) x;
        }
    convert_means h =
        let w = convert-clauses sheet m _ x (ap number_values h.answer) h.memory in
        record { outcome = h; refusals = w.refusals; converted = w.converted }

    -- of a line
    pub ring_means : Leaves (ringing sheet m) r x
        → record {
          outcome : Leaves (ringing sheet m) r x;
          refusals : AnswersRing sheet m (number_values r) x;
          heaviest : WritesHeaviest sheet (in_place_lem m) (number_values r) x;
        }
    ring_means h =
        let w = ring-clauses sheet m _ x (ap number_values h.answer) h.memory in
        record { outcome = h; refusals = w.refusals; heaviest = w.heaviest }
