-- Demand 1: the own refusals of each public call that reads a sheet, in checking order, with their causes, and that it
-- answers by them (01, Refused sheets and calls; 02, points 1, 2, 4, 7 and 9). A later call is one list and one field
-- more. What holds so of the call that reads a line stands in `Ringing`.
use Rattle.std.specs.Prelude.{◌≡◌, List, [], ◌∷◌, ℕ, ◌*◌, ◌/◌, ◌<◌, ◌≤◌, length}
use Rattle.pairs.specs.Pairs.{minutes_of}
use Rattle.network.specs.Limits as L
use Rattle.network.specs.Build.{scenarios, cells}
use Rattle.network.specs.Solution.{Solution}
use Rattle.network.specs.Least.{Inconsistent}
use Rattle.network.specs.declared.Network.{Network}
use Rattle.solver.specs.Rounds.{TakesRounds}
use Rattle.dispatch.specs.Heard.{WellNamed}
use Rattle.dispatch.specs.History.{History}
use Rattle.dispatch.specs.Said.{said_from}
use Rattle.dispatch.specs.HeardText.{heard_in, WellWritten}
use Rattle.dispatch.specs.declared.Heard.{Heard}
use Rattle.listing.specs.Listing.{header, listing}
use Rattle.readback.specs.Form.{Formed, Minutes}
use Rattle.canonical.specs.House.{house_text}
use Rattle.conversion.specs.FormerRules.{read_as_max_lem}
use Rattle.conversion.specs.Converted.{resulting, converted}
use Rattle.calls.specs.Values.{number_values}
use Rattle.calls.specs.Lent.{Lent}
use Rattle.calls.specs.Calls.{summary, no_counts, summary_values, judgement, solving, listed}
use Rattle.calls.specs.Calls.{housed, converting}
use Rattle.calls.specs.Within.{progress_values, within_into}
use Rattle.calls.specs.Bench.{no_finding, judgement_values, bench_judgement, bench_solving, bench_listed, bench_due}
use Rattle.calls.specs.Bench.{bench_recovering}
use Rattle.calls.specs.Play.{events_due_lem, events_due_on_lem}
use Rattle.calls.specs.Recover.{recovering}
use Rattle.calls.specs.Answers.{Own, Answers, AnswersInto, Writes}

-- "A table handed in has not exactly n × 2^k numbers"; as bytes it has two for each, so that "an odd number of bytes is
-- refusal 11"
abbrev pub minutes : List ℕ → Network → Type 0
minutes t Γ = length t ≡ cells Γ

abbrev pub bytes : List ℕ → Network → Type 0
bytes b Γ = length b ≡ 2 * cells Γ

abbrev pub wrong_length : (Network → Type 0) → Own
wrong_length right = record { number = 11; cause = λ Γ. right Γ → ⊥ }

-- "A lent table or byte buffer is too short for what would be written": so much is lent, and so much is needed
abbrev pub too_short : ℕ → (Network → ℕ) → Own
too_short lent needed = record { number = 12; cause = λ Γ. lent < needed Γ }

-- "No good table exists"
abbrev pub no_table : Own
no_table = record { number = 13; cause = Inconsistent }

abbrev pub judges : (Network → Type 0) → List Own
judges right = wrong_length right ∷ []

-- "the solver counts the whole pairs it is lent"
abbrev pub solves : ℕ → List Own
solves lent = too_short lent cells ∷ no_table ∷ []

-- "23, N is 0, after 12"; and 13 only where n rounds are enough
abbrev pub no_rounds : ℕ → Own
no_rounds n = record { number = 23; cause = λ Γ. n ≡ 0 }

abbrev pub no_table_within : ℕ → Own
no_table_within n = record { number = 13; cause = λ Γ. Inconsistent Γ × ((k : ℕ) → TakesRounds Γ k → k ≤ n) }

abbrev pub solves_within : ℕ → ℕ → List Own
solves_within n lent = too_short lent cells ∷ no_rounds n ∷ no_table_within n ∷ []

abbrev pub lists : (Network → Type 0) → List ℕ → List ℕ → List ℕ → List Own
lists right sheet t m = wrong_length right ∷ too_short (length m) (λ Γ. length (listing sheet Γ t)) ∷ []

abbrev pub houses : List ℕ → List ℕ → List Own
houses sheet m = too_short (length m) (λ Γ. length (house_text sheet Γ)) ∷ []

-- "17 if more than 64 rows would result", before 12
abbrev pub converts : List ℕ → List ℕ → List Own
converts sheet m =
    record { number = 17; cause = λ Γ. L.rules < resulting sheet Γ }
    ∷ too_short (length m) (λ Γ. length (converted sheet Γ))
    ∷ []

-- 18: the listing is "longer than 4,096 bytes", or for no texts in the places of its minutes the lines of this sheet;
-- 19: it is, and "a minute is ill-formed, negative or over 65,535", or has "the digits 65535"
abbrev pub other_form : List ℕ → List ℕ → Network → Type 0
other_form sheet printed Γ = Formed (header sheet Γ) Γ.signals Γ.events printed → ⊥

abbrev pub no_minute : List ℕ → List ℕ → Network → Type 0
no_minute sheet printed Γ =
    (x : Formed (header sheet Γ) Γ.signals Γ.events printed)
    × (((s : ℕ) → s < scenarios Γ → Minutes Γ.events x.fitting.texts s) → ⊥)

abbrev pub recovers : List ℕ → List ℕ → ℕ → List Own
recovers sheet printed lent =
    record { number = 18; cause = other_form sheet printed }
    ∷ record { number = 19; cause = no_minute sheet printed }
    ∷ too_short lent cells
    ∷ []

-- "14, the table does not pass the judge; 15, a letter in the list is undefined or stands twice; 16, no case has heard
-- exactly this list"
abbrev pub plays : (Network → Type 0) → List ℕ → (Network → Type 0) → (Network → Type 0) → List Own
plays right t misnamed unheard =
    wrong_length right
    ∷ record { number = 14; cause = λ Γ. Solution Γ t → ⊥ }
    ∷ record { number = 15; cause = misnamed }
    ∷ record { number = 16; cause = unheard }
    ∷ []

-- of a list
abbrev pub misnamed_by : List Heard → Network → Type 0
misnamed_by hs Γ = WellNamed Γ hs → ⊥

abbrev pub unheard_by : List ℕ → ℕ → List Heard → Network → Type 0
unheard_by t m hs Γ = (s : ℕ) → s < scenarios Γ → History Γ t m hs s → ⊥

-- of a mask: the list is any that has this mask
abbrev pub misnamed_on : ℕ → Network → Type 0
misnamed_on x Γ = (hs : List Heard) → said_from 0 hs ≡ x → misnamed_by hs Γ

abbrev pub unheard_on : List ℕ → ℕ → ℕ → Network → Type 0
unheard_on t m x Γ = (hs : List Heard) → said_from 0 hs ≡ x → unheard_by t m hs Γ

-- of a text, which counts as misnamed where it has another form
abbrev pub misnamed_in : List ℕ → Network → Type 0
misnamed_in text Γ = WellWritten Γ text → ⊥

pub record Numbers : Type 0 where
  pub reader : (sheet : List ℕ) → Answers sheet [] no_counts (summary_values (summary sheet))
  pub judge : (sheet t : List ℕ) → Answers sheet (judges (minutes t)) no_finding (judgement_values (judgement sheet t))
  pub solver : (sheet m : List ℕ) → Writes sheet (solves (length m)) (solving sheet m) m
  pub within : (sheet : List ℕ) (n : ℕ) (m : Lent)
      → let l = within_into sheet n m in
      AnswersInto sheet (solves_within n m.room) m.before (progress_values l.answer) l.memory
  pub lister : (sheet t m : List ℕ) → Writes sheet (lists (minutes t) sheet t m) (listed sheet t m) m
  pub house_writer : (sheet m : List ℕ) → Writes sheet (houses sheet m) (housed sheet m) m
  -- the converter reads by the former rules: its faults are those of the sheet with each `fix` row read as a `max` row
  pub converter : (sheet m : List ℕ) → Writes (read_as_max_lem sheet) (converts sheet m) (converting sheet m) m
  pub recoverer : (sheet printed m : List ℕ)
      → Writes sheet (recovers sheet printed (length m)) (recovering sheet printed m) m
  pub player : (sheet t : List ℕ) (m : ℕ) (hs : List Heard)
      → Answers sheet (plays (minutes t) t (misnamed_by hs) (unheard_by t m hs)) 0
      (number_values (events_due_lem sheet t m hs))
  pub player_on : (sheet t : List ℕ) (m x : ℕ)
      → Answers sheet (plays (minutes t) t (misnamed_on x) (unheard_on t m x)) 0
      (number_values (events_due_on_lem sheet t m x))
  -- of the bench's calls; its house form and its converter are those of the public calls, and what it answers within
  -- n rounds is told above, for any lent memory
  pub bench_judge : (sheet b : List ℕ)
      → Answers sheet (judges (bytes b)) no_finding (judgement_values (bench_judgement sheet b))
  pub bench_solver : (sheet b : List ℕ)
      → Writes sheet (solves (length b / 2)) (bench_solving sheet b) b
  pub bench_lister : (sheet b m : List ℕ)
      → Writes sheet (lists (bytes b) sheet (minutes_of b) m) (bench_listed sheet b m) m
  pub bench_recoverer : (sheet printed b : List ℕ)
      → Writes sheet (recovers sheet printed (length b / 2)) (bench_recovering sheet printed b) b
  pub bench_player : (sheet b : List ℕ) (m : ℕ) (text : List ℕ)
      → let t = minutes_of b in
      Answers sheet (plays (bytes b) t (misnamed_in text) (unheard_by t m (heard_in text))) 0
      (number_values (bench_due sheet b m text))
