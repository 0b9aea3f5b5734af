-- What the public calls answer and what they leave in the memory that they are lent (01, Refused sheets and calls, The
-- judge's verdict and The printed listing; 02, points 2 and 7). Each is its tests, in checking order, and its work.
use Rattle.std.specs.Prelude.{Bool, true, false, List, [], ◌∷◌, ℕ, leb, length, Ok, Err}
use Rattle.refusal.specs.declared.Refusal.{Refusal}
use Rattle.refusal.specs.declared.Cause.TheVariants.{WrongTableLength, BufferTooShort, Inconsistent, TooManyRows}
use Rattle.fixpoint.specs.Run.{End, Rests, Passes, Spent}
use Rattle.network.specs.Limits as L
use Rattle.network.specs.Build.{cells}
use Rattle.network.specs.declared.Network.{Network}
use Rattle.checker.specs.declared.Verdict.{Verdict}
use Rattle.checker.specs.Verdict.{verdict}
use Rattle.solver.specs.Solve.{solve, found}
use Rattle.listing.specs.Listing.{listing}
use Rattle.canonical.specs.House.{house_text}
use Rattle.conversion.specs.FormerRules.{read_as_max_lem}
use Rattle.conversion.specs.Converted.{resulting, converted}
use Rattle.heaviest.specs.RingText.{ring_text}
use Rattle.heaviest.specs.Reading.{reading}
use Rattle.calls.specs.Values.{OrRefusal, Values, values_of}
use Rattle.calls.specs.Call.{without_line_lem, Tests, call, call_on, Left}
use Rattle.calls.specs.Lent.{Handed, as_minutes, Lent, in_place_lem}
use Rattle.calls.specs.declared.Counts.{Counts}

-- reading: the horizon and the counts
abbrev pub counts_of : Network → Counts
counts_of Γ = record { horizon = Γ.horizon; events = Γ.events; signals = Γ.signals; rules = Γ.rules }

abbrev pub summary : List ℕ → OrRefusal Counts
summary sheet = call Err sheet (λ _. []) (λ Γ. Ok (counts_of Γ))

-- the values of an answer: the horizon and the counts
abbrev pub no_counts : Counts
no_counts = record { horizon = 0; events = 0; signals = 0; rules = 0 }

abbrev pub summary_values : OrRefusal Counts → Values Counts
summary_values = values_of no_counts

-- "A table handed in has not exactly n × 2^k numbers" is 11
abbrev pub right_length : Handed → Network → Bool × Refusal
right_length t Γ = (t.has (cells Γ), without_line_lem WrongTableLength)

-- judging
abbrev pub judging_tests : Handed → Network → Tests
judging_tests t Γ = right_length t Γ ∷ []

abbrev pub judging : List ℕ → Handed → OrRefusal Verdict
judging sheet t = call Err sheet (judging_tests t) (λ Γ. Ok (verdict Γ t.minutes))

abbrev pub judgement : List ℕ → List ℕ → OrRefusal Verdict
judgement sheet t = judging sheet (as_minutes t)

module _ (m : Lent) where
  -- "A lent table or byte buffer is too short for what would be written" is 12
  abbrev pub enough : ℕ → Bool × Refusal
  enough n = (leb n m.room, without_line_lem BufferTooShort)

  -- so much is written
  abbrev pub writing : List ℕ → Left (OrRefusal ℕ)
  writing text = record { answer = Ok (length text); memory = m.after text }

  -- refused: the memory keeps its contents
  abbrev pub refusing : Refusal → Left (OrRefusal ℕ)
  refusing r = record { answer = Err r; memory = m.before }

-- solving: the run ends at the least solution, or there is none
abbrev pub rests : End → Bool
rests Rests = true
rests Passes = false
rests Spent = false

-- 12 "even where 13 would follow"
abbrev pub solving_tests : Lent → Network → Tests
solving_tests m Γ = enough m (cells Γ) ∷ (rests (solve Γ).end, without_line_lem Inconsistent) ∷ []

abbrev pub solving_into : List ℕ → Lent → Left (OrRefusal ℕ)
solving_into sheet m = call (refusing m) sheet (solving_tests m) (λ Γ. writing m (found Γ))

abbrev pub solving : List ℕ → List ℕ → Left (OrRefusal ℕ)
solving sheet m = solving_into sheet (in_place_lem m)

-- listing: "prints any table of the right length"
abbrev pub listing_tests : List ℕ → Handed → Lent → Network → Tests
listing_tests sheet t m Γ = right_length t Γ ∷ enough m (length (listing sheet Γ t.minutes)) ∷ []

abbrev pub listing_of : List ℕ → Handed → List ℕ → Left (OrRefusal ℕ)
listing_of sheet t out =
    let m = in_place_lem out in
    call (refusing m) sheet (listing_tests sheet t m) (λ Γ. writing m (listing sheet Γ t.minutes))

abbrev pub listed : List ℕ → List ℕ → List ℕ → Left (OrRefusal ℕ)
listed sheet t m = listing_of sheet (as_minutes t) m

-- writing the house form
abbrev pub house_tests : List ℕ → Lent → Network → Tests
house_tests sheet m Γ = enough m (length (house_text sheet Γ)) ∷ []

abbrev pub housed : List ℕ → List ℕ → Left (OrRefusal ℕ)
housed sheet out =
    let m = in_place_lem out in
    call (refusing m) sheet (house_tests sheet m) (λ Γ. writing m (house_text sheet Γ))

-- converting a former sheet, which is read as `read_as_max_lem` says: 17 "if more than 64 rows would result" (02, point
-- 7), before 12
abbrev pub fit : ℕ → Bool
fit rows = leb rows L.rules

abbrev pub convert_tests : List ℕ → Lent → Network → Tests
convert_tests sheet m Γ =
    (fit (resulting sheet Γ), without_line_lem TooManyRows) ∷ enough m (length (converted sheet Γ)) ∷ []

abbrev pub converting : List ℕ → List ℕ → Left (OrRefusal ℕ)
converting sheet out =
    let m = in_place_lem out in
    call (refusing m) (read_as_max_lem sheet) (convert_tests sheet m) (λ Γ. writing m (converted sheet Γ))

-- writing the sheet that a line asks for, of so many events and a horizon, and without signals
abbrev pub ring_tests : Lent → ℕ × ℕ → Tests
ring_tests m asked = enough m (length (ring_text asked.0 asked.1)) ∷ []

abbrev pub ringing : List ℕ → List ℕ → Left (OrRefusal ℕ)
ringing line out =
    let m = in_place_lem out in
    call_on (refusing m) (ring_tests m) (λ asked. writing m (ring_text asked.0 asked.1)) (reading line)
