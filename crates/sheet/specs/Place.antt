-- What is expected on each line of a sheet, and the tests of that place (01, The sheet and Refused sheets and calls;
-- 02, points 3 and 6).
use Rattle.std.specs.Prelude.{Bool, true, false, List, ℕ, zero, suc, drop}
use Rattle.text.specs.Lines.{line_at, after_line, fields}
use Rattle.network.specs.Build.{empty}
use Rattle.network.specs.declared.Network.{Network}
use Rattle.line.specs.Tests.{Tests, line_tests, second_number}
use Rattle.line.specs.Sections.{heading_of_lem, horizon_heading, heading_tests, tests_of, with_line}
use Rattle.line.specs.declared.Section.{Section}
use Rattle.line.specs.declared.Section.TheVariants.{Events, Signals, Rules, Reactions, Cases}
use Rattle.sheet.specs.Reading.{follows, end_tests}

-- what is expected on a line: the horizon, the word and the count of a section, a line of a section with so many more
-- behind it, or no more
pub data Expected : Type 0 where
  Horizon : Expected
  Heading : Section → Expected
  Entry : Section → ℕ → Expected
  NoMore : Expected

-- "Sections stand in this order, each after its count" (01, The sheet). What is expected behind a section is told
-- whether bytes follow: the last two may be absent, "Any byte after the last rule begins" the reactions (02, point 3),
-- and "any byte after `reactions` begins" the cases (point 6)
abbrev pub behind : Section → Bool → Expected
behind Events more = Heading Signals
behind Signals more = Heading Rules
behind Rules true = Heading Reactions
behind Rules false = NoMore
behind Reactions true = Heading Cases
behind Reactions false = NoMore
behind Cases more = NoMore

-- so many lines of a section, and then what is behind it
abbrev pub entries : Section → Bool → ℕ → Expected
entries s more zero = behind s more
entries s more (suc m) = Entry s m

-- what is expected behind a line with these fields
abbrev pub expected_after : Expected → Bool → List (List ℕ) → Expected
expected_after Horizon more fs = Heading Events
expected_after (Heading s) more fs = entries s more (second_number fs)
expected_after (Entry s m) more fs = entries s more m
expected_after NoMore more fs = NoMore

-- what is expected on a line, what the lines above it have defined, and where it begins
pub record Place : Type 0 where
  pub expected : Expected
  pub network : Network
  pub at : ℕ

-- the first line
abbrev pub top : Place
top = record { expected = Horizon; network = empty 0; at = 0 }

module _ (sheet : List ℕ) where
  -- the tests of what is expected; behind the last section no byte follows
  abbrev pub tests_at : Expected → Network → ℕ → Tests
  tests_at Horizon Γ at = line_tests (drop at sheet) (heading_tests horizon_heading)
  tests_at (Heading s) Γ at = line_tests (drop at sheet) (heading_tests (heading_of_lem Γ.events s))
  tests_at (Entry s m) Γ at = line_tests (drop at sheet) (tests_of sheet s m Γ)
  tests_at NoMore Γ at = end_tests sheet at

  -- what is defined behind a line with these fields that begins here
  abbrev pub defined_after : Expected → Network → ℕ → List (List ℕ) → Network
  defined_after Horizon Γ at fs = empty (second_number fs)
  defined_after (Heading s) Γ at fs = Γ
  defined_after (Entry s m) Γ at fs = with_line sheet s Γ at fs
  defined_after NoMore Γ at fs = Γ

  abbrev pub next : Place → Place
  next p =
      let fs = fields (line_at sheet p.at) in
      record {
        expected = expected_after p.expected (follows sheet (after_line sheet p.at)) fs;
        network = defined_after p.expected p.network p.at fs;
        at = after_line sheet p.at;
      }

  -- the line that so many lines stand above, which pass their tests; and its own
  abbrev pub place : ℕ → Place
  place zero = top
  place (suc k) = next (place k)

  abbrev pub tests : ℕ → Tests
  tests k = let p = place k in tests_at p.expected p.network p.at
