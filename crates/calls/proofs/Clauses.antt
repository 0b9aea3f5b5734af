-- What the answer of a call means, once its values v and what it left are the defined ones: one law for a call's
-- contract and for that of its function for C, whose values the header's functions tell. Assumes nothing.
use mathlib.Core.Path.{◌≡◌}
use mathlib.Core.Bool.{true}
use mathlib.Core.List.{List}
use Prim.Native.Nat.{ℕ}
use Rattle.pairs.specs.Pairs.{minutes_of}
use Rattle.network.specs.declared.Network.{Network}
use Rattle.sheet.specs.Reading.{network_of}
use Rattle.dispatch.specs.HeardText.{is_heard_lem, heard_in}
use Rattle.calls.specs.Values.{Values, number_values}
use Rattle.calls.specs.Lent.{Handed, Lent, in_place_lem}
use Rattle.calls.specs.Calls.{judging, solving_into, listing_of, housed, converting, ringing}
use Rattle.calls.specs.Counting.{rounds_taken}
use Rattle.calls.specs.Within.{Reach, reach_of, progress_values, within_into}
use Rattle.calls.specs.Recover.{recovering_into}
use Rattle.calls.specs.Bench.{Finding, no_finding, judgement_values, bench_due}
use Rattle.calls.specs.Answers.{Answers, AnswersInto}
use Rattle.calls.specs.Numbers.{bytes, judges, solves, solves_within, lists, houses, recovers}
use Rattle.calls.specs.Numbers.{plays, misnamed_in, unheard_by}
use Rattle.calls.specs.Judges.{Passes, Breaches}
use Rattle.calls.specs.Solves.{RefusesNone, WritesLeast, CountsRounds}
use Rattle.calls.specs.StopsEarly.{StopsAfter, FinishesWithin, MakesNoRound}
use Rattle.calls.specs.Lists.{WritesListing}
use Rattle.calls.specs.ReadingBack.{ReadsBack}
use Rattle.calls.specs.Playing.{TellsRow}
use Rattle.calls.specs.Housing.{WritesForm}
use Rattle.calls.specs.Converting.{AnswersFormer, WritesConverted}
use Rattle.calls.specs.Ringing.{AnswersRing, WritesHeaviest}
use Rattle.calls.proofs.Handed.{Rightly}
use Rattle.calls.proofs.Judging.{judge-answers, judge_passes, judge-breaches}
use Rattle.calls.proofs.Solving.{solver_writes}
use Rattle.calls.proofs.Writing.{lister_writes, listing-wrote, house_writes}
use Rattle.calls.proofs.Recovering.{recoverer-writes}
use Rattle.calls.proofs.ReadingBack.{reading_back}
use Rattle.calls.proofs.Housing.{housing}
use Rattle.calls.proofs.Converting.{conversions}
use Rattle.calls.proofs.Ringing.{ringings}
use Rattle.calls.proofs.Numbers.{numbers}
use Rattle.calls.proofs.Benched.{benched}
use Rattle.calls.proofs.Demands.{demands}

module _ (sheet : List ℕ) where
  -- a table that is handed in: it is judged, and listed
  module _ (t : Handed) (right : Network → Type 0) (rightly : Rightly t right (network_of sheet)) where
    pub judge-clauses : (v : Values Finding) → v ≡ judgement_values (judging sheet t)
        → record {
          refusals : Answers sheet (judges right) no_finding v;
          passes : Passes sheet right t.minutes v;
          breaches : Breaches sheet right t.minutes v;
        }
    judge-clauses v e =
        rw e (record {
          refusals = judge-answers sheet t right (λ _. rightly);
          passes = λ Γ r. rw (← r.network) (judge_passes sheet t right r.accepted rightly);
          breaches = λ Γ b r. rw (← r.network) (λ h. judge-breaches sheet t right r.accepted rightly h b);
        })

    pub list-clauses : (m : List ℕ) (v : Values ℕ) (x : List ℕ)
        → v ≡ number_values (listing_of sheet t m).answer → x ≡ (listing_of sheet t m).memory
        → record {
          refusals : AnswersInto sheet (lists right sheet t.minutes m) m v x;
          lists : WritesListing sheet right t.minutes (in_place_lem m) v x;
        }
    list-clauses m v x e f =
        rw (e, f) (record {
          refusals = lister_writes sheet t right m (λ _. rightly);
          lists = λ Γ r. rw (← r.network) (λ h. listing-wrote sheet t right m r.accepted rightly h);
        })

  pub solve-clauses : (m : Lent) (v : Values ℕ) (k : ℕ) (x : List ℕ)
      → v ≡ number_values (solving_into sheet m).answer → k ≡ rounds_taken sheet m → x ≡ (solving_into sheet m).memory
      → record {
        refusals : AnswersInto sheet (solves m.room) m.before v x;
        none : RefusesNone sheet m v;
        least : WritesLeast sheet m v x;
        rounds : CountsRounds sheet m v k;
      }
  solve-clauses m v k x e g f =
      rw (e, g, f) (record {
        refusals = solver_writes sheet m;
        none = demands.refused sheet m;
        least = demands.solved sheet m;
        rounds = demands.rounds sheet m;
      })

  pub within-clauses : (n : ℕ) (m : Lent) (v : Values ℕ) (c : Reach) (x : List ℕ)
      → v ≡ progress_values (within_into sheet n m).answer → c ≡ reach_of (within_into sheet n m).answer
      → x ≡ (within_into sheet n m).memory
      → record {
        refusals : AnswersInto sheet (solves_within n m.room) m.before v x;
        stopped : StopsAfter sheet n m v c x;
        finished : FinishesWithin sheet n m v c x;
        no_round : MakesNoRound v c;
      }
  within-clauses n m v c x e g f =
      rw (e, g, f) (record {
        refusals = numbers.within sheet n m;
        stopped = demands.stops sheet n m;
        finished = demands.finishes sheet n m;
        no_round = demands.makes_no_round sheet n m;
      })

  pub recover-clauses : (printed : List ℕ) (m : Lent) (v : Values ℕ) (x : List ℕ)
      → v ≡ number_values (recovering_into sheet printed m).answer → x ≡ (recovering_into sheet printed m).memory
      → record {
        refusals : AnswersInto sheet (recovers sheet printed m.room) m.before v x;
        reads_back : ReadsBack sheet printed m v x;
      }
  recover-clauses printed m v x e f =
      rw (e, f) (record {
        refusals = recoverer-writes sheet printed m;
        reads_back = reading_back.reads_back sheet printed m;
      })

  module _ (m : List ℕ) (v : Values ℕ) (x : List ℕ) where
    pub house-clauses : v ≡ number_values (housed sheet m).answer → x ≡ (housed sheet m).memory
        → record {
          refusals : AnswersInto sheet (houses sheet m) m v x;
          form : WritesForm sheet (in_place_lem m) v x;
        }
    house-clauses e f = rw (e, f) (record { refusals = house_writes sheet m; form = housing.writes sheet m })

    pub convert-clauses : v ≡ number_values (converting sheet m).answer → x ≡ (converting sheet m).memory
        → record {
          refusals : AnswersFormer sheet m v x;
          converted : WritesConverted sheet (in_place_lem m) v x;
        }
    convert-clauses e f =
        rw (e, f) (record {
          refusals = conversions.answers sheet m;
          converted = conversions.writes sheet m;
        })

  -- of a line
  pub ring-clauses : (m : List ℕ) (v : Values ℕ) (x : List ℕ)
      → v ≡ number_values (ringing sheet m).answer → x ≡ (ringing sheet m).memory
      → record {
        refusals : AnswersRing sheet m v x;
        heaviest : WritesHeaviest sheet (in_place_lem m) v x;
      }
  ring-clauses m v x e f =
      rw (e, f) (record { refusals = ringings.answers sheet m; heaviest = ringings.writes sheet m })

  -- a table of bytes is played, for those who have heard a text
  pub play-clauses : (b : List ℕ) (m : ℕ) (text : List ℕ) (v : Values ℕ)
      → v ≡ number_values (bench_due sheet b m text)
      → record {
        refusals : Answers sheet (plays (bytes b) (minutes_of b) (misnamed_in text)
            (unheard_by (minutes_of b) m (heard_in text))) 0 v;
        row : is_heard_lem text ≡ true → TellsRow sheet (bytes b) (minutes_of b) m (heard_in text) v;
      }
  play-clauses b m text v e =
      rw e (record { refusals = numbers.bench_player sheet b m text; row = benched.due sheet b m text })
