-- The tests of a line, by its fields and in checking order, each with the cause of its failure (01, The sheet and
-- Refused sheets). Each line's stand here once: the refusal of a line is the first of them to fail.
use Rattle.std.specs.Prelude.{Bool, true, false, ◌&&◌, ◌||◌, not, List, [], ◌∷◌, ◌++◌, ℕ, eqb, leb, ltb, length, get_or}
use Rattle.std.proofs.Math.Option.{Option, none, some}
use Rattle.prelude.specs.Search.{when, answers}
use Rattle.prelude.specs.Bytes.{ascii, is_in, same, distinct}
use Rattle.text.specs.Lines.{line_feed, up_to, fields, field}
use Rattle.text.specs.Number.{is_number, in_range, magnitude}
use Rattle.refusal.specs.declared.Cause.{Cause}
use Rattle.refusal.specs.declared.Cause.TheVariants as C
use Rattle.network.specs.Limits as L
use Rattle.network.specs.Build.{reaction_stated, is_labelled}
use Rattle.network.specs.declared.Kind.{Kind}
use Rattle.network.specs.declared.Kind.TheVariants.{Max, Min}
use Rattle.network.specs.declared.Network.{Network}
use Rattle.names.specs.Names.{is_name_lem, is_one_letter_lem, is_label_lem, label_of, letters_of}
use Rattle.names.specs.Defined.{event_named, place_of, all_defined_lem, gives_signal_lem}

abbrev pub Tests : Type 0
Tests = List (Bool × Cause)

-- the line that begins here: it has its line feed, and its fields pass
abbrev pub line_tests : List ℕ → (List (List ℕ) → Tests) → Tests
line_tests rest ts = (is_in line_feed rest, C.MissingLine) ∷ ts (fields (up_to line_feed rest))

-- a number from lo to hi
abbrev pub count_tests : ℕ → ℕ → List ℕ → Tests
count_tests lo hi f = (is_number f, C.IllFormedNumber) ∷ (in_range lo hi f, C.OutOfRange) ∷ []

-- a limit with its sign
abbrev pub limit_tests : List ℕ → Tests
limit_tests f = (is_number f, C.IllFormedNumber) ∷ (leb (magnitude f) L.horizon, C.OutOfRange) ∷ []

-- a word and its count
unfoldable pub section_tests : List ℕ → ℕ → ℕ → List (List ℕ) → Tests
section_tests word lo hi fs =
    (eqb (length fs) 2 && same (field 0 fs) word, C.WrongFields) ∷ count_tests lo hi (field 1 fs)

-- the number in the second field: a section's count, or a signal's minutes
abbrev pub second_number : List (List ℕ) → ℕ
second_number fs = magnitude (field 1 fs)

-- the kind that the first field of a rule says
abbrev pub kind_of : List ℕ → Option Kind
kind_of f =
    elim (same f (ascii "max")) [
      | true ↦ some Max
      | false ↦ when (same f (ascii "min")) Min
    ]

-- the kind that is retired (02, point 7)
abbrev pub is_retired : List ℕ → Bool
is_retired f = same f (ascii "fix")

-- the kind of a rule; "22, the row is a `fix`, with its line, tried directly after 3" (02, point 7)
unfoldable pub kind_tests : List ℕ → Tests
kind_tests f = (answers (kind_of f) || is_retired f, C.WrongFields) ∷ (not (is_retired f), C.RetiredKind) ∷ []

-- "the event already gives a signal", where it is defined
abbrev pub is_observation : Network → Option ℕ → Bool
is_observation Γ none = false
is_observation Γ (some u) = gives_signal_lem Γ.signals Γ.observations u

-- a line has already said after how many minutes the signal is trusted, where it is defined
abbrev pub has_line : Network → Option ℕ → Bool
has_line Γ none = false
has_line Γ (some p) = ltb 0 (reaction_stated Γ p)

-- a line has already said where the event happens, also one with the label `-`, where it is defined
abbrev pub has_label : Network → Option ℕ → Bool
has_label Γ none = false
has_label Γ (some u) = is_labelled Γ u

-- the signal whose letter the field is, if it is defined
abbrev pub signal_of : Network → List ℕ → Option ℕ
signal_of Γ f = place_of Γ.signals Γ.letters (get_or f 0 0)

module _ (sheet : List ℕ) (Γ : Network) where
  -- the event of that name, if it is defined
  abbrev pub event_of : List ℕ → Option ℕ
  event_of f = event_named sheet Γ.events Γ.starts Γ.lengths f

  -- an event name
  unfoldable pub event_tests : List (List ℕ) → Tests
  event_tests fs =
      (eqb (length fs) 1, C.WrongFields)
      ∷ (is_name_lem (field 0 fs), C.IllFormedName)
      ∷ (not (answers (event_of (field 0 fs))), C.Duplicate)
      ∷ []

  -- `letter,event`
  unfoldable pub signal_tests : List (List ℕ) → Tests
  signal_tests fs =
      (eqb (length fs) 2, C.WrongFields)
      ∷ (is_one_letter_lem (field 0 fs) && is_name_lem (field 1 fs), C.IllFormedName)
      ∷ (
        not (answers (signal_of Γ (field 0 fs)) || is_observation Γ (event_of (field 1 fs))),
        C.Duplicate,
      )
      ∷ (answers (event_of (field 1 fs)), C.Undefined)
      ∷ []

  -- an event and its label
  unfoldable pub placed_tests : List ℕ → List ℕ → Tests
  placed_tests name label =
      (is_name_lem name && is_label_lem label, C.IllFormedName)
      ∷ (not (has_label Γ (event_of name)), C.Duplicate)
      ∷ (
        answers (event_of name) && all_defined_lem Γ.signals Γ.letters (letters_of (label_of label)),
        C.Undefined,
      )
      ∷ (distinct (letters_of (label_of label)), C.RepeatedLetter)
      ∷ []

  -- `event,label`; "an event's second line is refused with 7" (02, point 6)
  unfoldable pub label_tests : List (List ℕ) → Tests
  label_tests fs = (eqb (length fs) 2, C.WrongFields) ∷ placed_tests (field 0 fs) (field 1 fs)

  -- the ends and the label of a rule
  unfoldable pub ends_tests : List ℕ → List ℕ → List ℕ → Tests
  ends_tests from to label =
      (is_name_lem from && (is_name_lem to && is_label_lem label), C.IllFormedName)
      ∷ (
        answers (event_of from) && (answers (event_of to)
            && all_defined_lem Γ.signals Γ.letters (letters_of (label_of label))),
        C.Undefined,
      )
      ∷ (distinct (letters_of (label_of label)), C.RepeatedLetter)
      ∷ []

  -- `kind,from,to,limit,label`, where the kind has these tests
  abbrev pub rule_tests_by : (List ℕ → Tests) → List (List ℕ) → Tests
  rule_tests_by kinds fs =
      (eqb (length fs) 5, C.WrongFields)
      ∷ (kinds (field 0 fs) ++ (limit_tests (field 3 fs) ++ ends_tests (field 1 fs) (field 2 fs) (field 4 fs)))

  unfoldable pub rule_tests : List (List ℕ) → Tests
  rule_tests fs = rule_tests_by kind_tests fs

module _ (Γ : Network) where
  -- the letters of a label
  abbrev pub letters_tests : List ℕ → Tests
  letters_tests label =
      (all_defined_lem Γ.signals Γ.letters (letters_of (label_of label)), C.Undefined)
      ∷ (distinct (letters_of (label_of label)), C.RepeatedLetter)
      ∷ []

  -- the letter of a reaction
  unfoldable pub letter_tests : List ℕ → Tests
  letter_tests f =
      (is_one_letter_lem f, C.IllFormedName)
      ∷ (not (has_line Γ (signal_of Γ f)), C.Duplicate)
      ∷ (answers (signal_of Γ f), C.Undefined)
      ∷ []

  -- `letter,minutes`, "minutes from 1 to 60; a letter's second line is refused with 7" (02, point 3)
  unfoldable pub reaction_tests : List (List ℕ) → Tests
  reaction_tests fs =
      (eqb (length fs) 2, C.WrongFields)
      ∷ (count_tests L.fastest L.slowest (field 1 fs) ++ letter_tests (field 0 fs))
