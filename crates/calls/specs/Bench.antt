-- The calls of the workshop bench, which is written in C: tables travel as bytes, and an answer is one number (01, The
-- judge's verdict).
use Rattle.std.specs.Prelude.{List, ℕ, ◌+◌, ◌*◌, ◌<◌, Ok, Err}
use Rattle.pairs.specs.Pairs.{minutes_of}
use Rattle.refusal.specs.declared.Refusal.{Refusal}
use Rattle.checker.specs.declared.Breach.{Breach}
use Rattle.checker.specs.declared.Breach.TheVariants.{Late, Rule, Unheard}
use Rattle.checker.specs.declared.Verdict.{Verdict}
use Rattle.checker.specs.declared.Verdict.TheVariants.{Pass, Breach as Breached}
use Rattle.dispatch.specs.HeardText.{due_text}
use Rattle.calls.specs.Values.{OrRefusal, Values, done, turned_away, number_values}
use Rattle.calls.specs.Call.{Left}
use Rattle.calls.specs.Lent.{as_bytes, in_pairs}
use Rattle.calls.specs.Calls.{judging, solving_into, listing_of}
use Rattle.calls.specs.Counting.{OrUnsolved, rounds_of, solved_values, counting_into}
use Rattle.calls.specs.Within.{OrProgress, Reach, NoRound, Finishes, Stops, reach_of, progress_values, within_into}
use Rattle.calls.specs.Play.{playing}
use Rattle.calls.specs.Recover.{recovering_into}

-- judging bytes
abbrev pub bench_judgement : List ℕ → List ℕ → OrRefusal Verdict
bench_judgement sheet b = judging sheet (as_bytes b)

-- solving into bytes
abbrev pub bench_solving : List ℕ → List ℕ → Left (OrRefusal ℕ)
bench_solving sheet b = solving_into sheet (in_pairs b)

-- and the count of rounds beside it
abbrev pub bench_counting : List ℕ → List ℕ → Left OrUnsolved
bench_counting sheet b = counting_into sheet (in_pairs b)

-- solving into bytes within n rounds
abbrev pub bench_within : List ℕ → ℕ → List ℕ → Left OrProgress
bench_within sheet n b = within_into sheet n (in_pairs b)

-- reading a listing back into bytes
abbrev pub bench_recovering : List ℕ → List ℕ → List ℕ → Left (OrRefusal ℕ)
bench_recovering sheet printed b = recovering_into sheet printed (in_pairs b)

-- listing a table of bytes
abbrev pub bench_listed : List ℕ → List ℕ → List ℕ → Left (OrRefusal ℕ)
bench_listed sheet b m = listing_of sheet (as_bytes b) m

-- playing a table of bytes, for those who have heard a text
unfoldable pub bench_due : List ℕ → List ℕ → ℕ → List ℕ → OrRefusal ℕ
bench_due sheet b m text = playing sheet (as_bytes b) (λ Γ. due_text Γ (minutes_of b) m text)

-- the values of a verdict: word 0 is a pass, 1 Late with case and event, 2 Rule with case and rule, 3 Unheard with both
-- cases and the event
pub record Finding : Type 0 where
  pub word : ℕ
  pub first : ℕ
  pub second : ℕ
  pub third : ℕ

abbrev pub finding : ℕ → ℕ → ℕ → ℕ → Finding
finding w a b c = record { word = w; first = a; second = b; third = c }

abbrev pub no_finding : Finding
no_finding = finding 0 0 0 0

abbrev pub refused : Refusal → Values Finding
refused r = turned_away no_finding r

abbrev pub judged : ℕ → ℕ → ℕ → ℕ → Values Finding
judged w a b c = done (finding w a b c)

abbrev pub passed : Values Finding
passed = judged 0 0 0 0

abbrev pub breach_values : Breach → Values Finding
breach_values (Late s u) = judged 1 s u 0
breach_values (Rule s c) = judged 2 s c 0
breach_values (Unheard s r u) = judged 3 s r u

abbrev pub verdict_values : Verdict → Values Finding
verdict_values Pass = passed
verdict_values (Breached b) = breach_values b

abbrev pub judgement_values : OrRefusal Verdict → Values Finding
judgement_values (Ok v) = verdict_values v
judgement_values (Err r) = refused r

-- the judge's answer for C, lowest byte first: number, line (two bytes), word, three values
abbrev pub packed : Values Finding → ℕ
packed v =
    let x = v.value in
    v.number + 256 * (v.line + 65536 * (x.word + 256 * (x.first + 256 * (x.second + 256 * x.third))))

-- each value fits its bytes
pub record Small (v : Values Finding) : Type 0 where
  pub number : v.number < 256
  pub line : v.line < 65536
  pub word : v.value.word < 4
  pub first : v.value.first < 256
  pub second : v.value.second < 256
  pub third : v.value.third < 256

-- the others': number, line (two bytes), count of minutes or bytes, or the events due (two bytes)
abbrev pub packed_count_lem : Values ℕ → ℕ
packed_count_lem v = v.number + 256 * (v.line + 65536 * v.value)

-- the answer of a call that writes, as C has it
abbrev pub packed_left : Left (OrRefusal ℕ) → Left ℕ
packed_left l = record { answer = packed_count_lem (number_values l.answer); memory = l.memory }

-- the solver's: behind the count of minutes the count of rounds (three bytes)
abbrev pub packed_rounds_lem : Values ℕ → ℕ → ℕ
packed_rounds_lem v k = packed_count_lem v + 1099511627776 * k

abbrev pub packed_counted : Left OrUnsolved → Left ℕ
packed_counted l =
    record { answer = packed_rounds_lem (solved_values l.answer) (rounds_of l.answer); memory = l.memory }

-- that of solving within n rounds: in the same three bytes the count of rounds, or their highest bit and what is left
abbrev pub reach_bytes : Reach → ℕ
reach_bytes NoRound = 0
reach_bytes (Finishes k) = k
reach_bytes (Stops l) = 8388608 + l

abbrev pub packed_reach_lem : Values ℕ → Reach → ℕ
packed_reach_lem v c = packed_rounds_lem v (reach_bytes c)

abbrev pub packed_progress : Left OrProgress → Left ℕ
packed_progress l =
    record { answer = packed_reach_lem (progress_values l.answer) (reach_of l.answer); memory = l.memory }
