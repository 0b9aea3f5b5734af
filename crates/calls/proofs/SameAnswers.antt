-- Sheets whose networks say the same are answered the same by every call. Assumes nothing.
use mathlib.Core.Path.{◌≡◌, refl, sym, ◌∙◌, ap, ap₂}
use mathlib.Core.Logic.{◌↔◌}
use mathlib.Core.Bool.{Bool, true, false, cond}
use mathlib.Core.Option.{Option}
use mathlib.Core.List.{List, [], ◌∷◌}
use Prim.Native.Nat.{ℕ, ◌*◌, ◌^◌, ◌<◌}
use lib.ListN.{length}
use Rattle.std.specs.Prelude.{Ok, Err, Result}
use Rattle.prelude.specs.Checks.{first_failing_lem}
use Rattle.prelude.proofs.Mapped.{tabulate-value}
use Rattle.prelude.proofs.Tests.{clash}
use Rattle.pairs.specs.Pairs.{minutes_of}
use Rattle.refusal.specs.declared.Refusal.{Refusal}
use Rattle.refusal.specs.declared.Cause.TheVariants as C
use Rattle.network.specs.Build.{name_of_lem, cells}
use Rattle.network.specs.Solution.{Solution}
use Rattle.network.specs.Least as L
use Rattle.network.specs.declared.Network.{Network}
use Rattle.network.proofs.Least.{least_unique, same-least, same_inconsistent}
use Rattle.sheet.specs.Reading.{network_of, Accepts}
use Rattle.sheet.proofs.WellFormed.{accepted_well_formed}
use Rattle.checker.specs.Verdict.{verdict}
use Rattle.checker.specs.declared.Verdict.{Verdict}
use Rattle.solver.specs.Solve.{solve, found}
use Rattle.dispatch.specs.Due.{due}
use Rattle.dispatch.specs.Said.{due_on}
use Rattle.dispatch.specs.HeardText.{is_heard_lem, heard_in, due_text}
use Rattle.dispatch.specs.declared.Unanswered.{Unanswered}
use Rattle.dispatch.specs.declared.Unanswered.TheVariants.{Misnamed}
use Rattle.listing.specs.Listing.{header, listing}
use Rattle.listing.proofs.Same.{header-same, listing-same}
use Rattle.readback.specs.Rows.{recovered}
use Rattle.tighten.proofs.Agree.{cells_agree, same-events}
use Rattle.tighten.proofs.Tables.{solutions_by-remaining}
use Rattle.canonical.specs.House.{house_text}
use Rattle.canonical.specs.Same.{Same}
use Rattle.canonical.proofs.Faithful.{faithful}
use Rattle.canonical.proofs.Likeness.{text_same}
use Rattle.calls.specs.Call.{without_line_lem}
use Rattle.calls.specs.Lent.{Handed, Lent, as_minutes, as_bytes, in_place_lem}
use Rattle.calls.specs.Calls.{counts_of, summary, judging_tests, judging, enough, writing}
use Rattle.calls.specs.Calls.{refusing, rests, solving_tests, solving_into}
use Rattle.calls.specs.Calls.{listing_tests, listing_of, house_tests, housed}
use Rattle.calls.specs.Play.{named, ever_heard, events_of, is_pass, playing_tests, playing, events_due_lem}
use Rattle.calls.specs.Play.{events_due_on_lem}
use Rattle.calls.specs.Bench.{bench_due}
use Rattle.calls.specs.Recover.{recovery_tests, recovered_in, recovering_tests, recovering_into}
use Rattle.calls.specs.Reacting.{SameAnswers}
use Rattle.calls.proofs.Call.{calls_alike}
use Rattle.calls.proofs.Solving.{unrested, rested}
use Rattle.calls.proofs.Likewise.{Likewise}
use Rattle.calls.proofs.LikeVerdicts.{verdict-same}
use Rattle.calls.proofs.LikePlays.{due-same, due-on-same}

module _ (sheet other : List ℕ) (a : Accepts sheet) (b : Accepts other)
    (w : Likewise (network_of sheet) (network_of other))
    (s : Same sheet (network_of sheet) other (network_of other)) where
  abbrev Γ : Network
  Γ = network_of sheet

  abbrev Δ : Network
  Δ = network_of other

  size : cells Γ ≡ cells Δ
  size = cells_agree w.agrees

  -- the same good tables, so the same least one or none
  tables-same : (σ : List ℕ) → Solution Γ σ ↔ Solution Δ σ
  tables-same =
      solutions_by-remaining (accepted_well_formed sheet a).0 (accepted_well_formed other b).0 w.agrees
      s.remaining

  summaries : summary sheet ≡ summary other
  summaries =
      calls_alike Err sheet other (λ _. []) (λ _. []) (λ Γ. Ok (counts_of Γ))
      (λ Γ. Ok (counts_of Γ)) a b refl
      (λ _. rw (w.agrees.horizon, w.agrees.events, w.agrees.signals, w.rules) refl)

  verdicts : (t : Handed) → judging sheet t ≡ judging other t
  verdicts t =
      calls_alike Err sheet other (judging_tests t) (judging_tests t) (λ Γ. Ok (verdict Γ t.minutes))
      (λ Γ. Ok (verdict Γ t.minutes)) a b
      (ap (λ (n : ℕ). first_failing_lem ((t.has n, without_line_lem C.WrongTableLength) ∷ [])) size)
      (λ _. ap Ok (verdict-same w t.minutes))

  rests-same : (m : Lent) → rests (solve Γ).end ≡ rests (solve Δ).end
  rests-same m = by_both (rests (solve Γ).end) (rests (solve Δ).end) refl refl
    where
      none : L.Inconsistent Γ ↔ L.Inconsistent Δ
      none = same_inconsistent (same-events w.agrees) tables-same

      by_both : (x y : Bool) → rests (solve Γ).end ≡ x → rests (solve Δ).end ≡ y → x ≡ y
      by_both true true p q = refl
      by_both false false p q = refl
      by_both true false p q =
          clash (rests (solve Γ).end) p ((unrested sheet m a).1 (none.1 ((unrested other m b).0 q)))
      by_both false true p q =
          clash (rests (solve Δ).end) q ((unrested other m b).1 (none.0 ((unrested sheet m a).0 p)))

  tables : (m : Lent) → solving_into sheet m ≡ solving_into other m
  tables m =
      calls_alike (refusing m) sheet other (solving_tests m) (solving_tests m) (λ Γ. writing m (found Γ))
      (λ Γ. writing m (found Γ)) a b
      (ap₂ (λ (n : ℕ) (r : Bool). first_failing_lem (enough m n ∷ (r, without_line_lem C.Inconsistent) ∷ [])) size
      (rests-same m))
      (λ h. ap (writing m) (least_unique
      ((same-least (same-events w.agrees) tables-same (found Γ)).0 (rested sheet m a h.1.0))
      (rested other m b (sym (rests-same m) ∙ h.1.0))))

  -- playing, by what the player says of a network
  plays : (t : Handed) (said : Network → Result ℕ Unanswered) → said Γ ≡ said Δ
      → playing sheet t said ≡ playing other t said
  plays t said e =
      calls_alike Err sheet other (playing_tests t said) (playing_tests t said)
      (λ Γ. Ok (events_of (said Γ)))
      (λ Γ. Ok (events_of (said Γ))) a b
      (ap₂ (λ (n : ℕ) (v : Verdict). first n v (said Γ)) size (verdict-same w t.minutes)
      ∙ ap (first (cells Δ) (verdict Δ t.minutes)) e)
      (λ _. ap (λ (d : Result ℕ Unanswered). Ok (events_of d)) e)
    where
      first : ℕ → Verdict → Result ℕ Unanswered → Option Refusal
      first n v d =
          first_failing_lem ((t.has n, without_line_lem C.WrongTableLength)
          ∷ (is_pass v, without_line_lem C.TableFails)
          ∷ (named d, without_line_lem C.MisnamedSignal)
          ∷ (ever_heard d, without_line_lem C.NeverHeard)
          ∷ [])

  names : (u : ℕ) → u < Γ.events → name_of_lem Γ sheet u ≡ name_of_lem Δ other u
  names = tabulate-value (name_of_lem Γ sheet) (name_of_lem Δ other) Γ.events Δ.events s.events

  -- a listing is read by the header and the counts of signals and events
  recoveries : (bytes : List ℕ) (m : Lent) → recovering_into sheet bytes m ≡ recovering_into other bytes m
  recoveries bytes m =
      calls_alike (refusing m) sheet other (recovering_tests sheet bytes m) (recovering_tests other bytes m)
      (λ Γ. writing m (recovered_in sheet bytes Γ)) (λ Γ. writing m (recovered_in other bytes Γ)) a b
      (alike (λ h k n. first_failing_lem (recovery_tests h k n bytes (enough m (n * 2 ^ k)))))
      (λ _. alike (λ h k n. writing m (recovered h k n bytes)))
    where
      alike : {A : Type 0} (f : List ℕ → ℕ → ℕ → A)
          → f (header sheet Γ) Γ.signals Γ.events ≡ f (header other Δ) Δ.signals Δ.events
      alike f =
          ap (λ (h : List ℕ). f h Γ.signals Γ.events)
          (header-same sheet Γ other Δ w.agrees.events w.agrees.signals names)
          ∙ ap₂ (λ (k n : ℕ). f (header other Δ) k n) w.agrees.signals w.agrees.events

  listings : (t : Handed) (out : List ℕ) → listing_of sheet t out ≡ listing_of other t out
  listings t out =
      let m = in_place_lem out in
      let σ = t.minutes in
      let text = listing-same sheet Γ other Δ w.agrees.events w.agrees.signals names σ in
      calls_alike (refusing m) sheet other (listing_tests sheet t m) (listing_tests other t m)
      (λ Γ. writing m (listing sheet Γ σ)) (λ Γ. writing m (listing other Γ σ)) a b
      (ap₂ (λ (n : ℕ) (x : List ℕ).
      first_failing_lem ((t.has n, without_line_lem C.WrongTableLength) ∷ enough m (length x) ∷ [])) size text)
      (λ _. ap (writing m) text)

  forms : (out : List ℕ) → housed sheet out ≡ housed other out
  forms out =
      let m = in_place_lem out in
      let text = text_same s (faithful sheet a) in
      calls_alike (refusing m) sheet other (house_tests sheet m) (house_tests other m)
      (λ Γ. writing m (house_text sheet Γ)) (λ Γ. writing m (house_text other Γ)) a b
      (ap (λ (x : List ℕ). first_failing_lem (enough m (length x) ∷ [])) text)
      (λ _. ap (writing m) text)

  pub same-answers : SameAnswers sheet other
  unfolding events_due_lem events_due_on_lem bench_due due_text
  same-answers = record {
    summaries = summaries;
    verdicts = verdicts;
    tables = tables;
    due = λ t m hs. plays (as_minutes t) (λ Γ. due Γ t m hs) (due-same w t m hs);
    due_by_mask = λ t m x. plays (as_minutes t) (λ Γ. due_on Γ t m x) (due-on-same w t m x);
    due_by_text = λ t m text.
        plays (as_bytes t) (λ Γ. due_text Γ (minutes_of t) m text)
        (ap (λ (d : Result ℕ Unanswered). cond (is_heard_lem text) d (Err Misnamed))
        (due-same w (minutes_of t) m (heard_in text)));
    listings = listings;
    recoveries = recoveries;
    forms = forms;
  }
