-- Why a former sheet is refused, by its own rules: as every sheet, said of its lines, but that the first field of a
-- rule may be `fix` as well, and so no line is refused with 22.
use Rattle.std.specs.Prelude.{◌||◌, List, [], ◌∷◌, ℕ, drop}
use Rattle.prelude.specs.Search.{answers}
use Rattle.refusal.specs.declared.Cause.TheVariants as C
use Rattle.refusal.specs.declared.Refusal.{Refusal}
use Rattle.network.specs.declared.Network.{Network}
use Rattle.line.specs.Tests.{Tests, kind_of, is_retired, line_tests, rule_tests_by}
use Rattle.line.specs.declared.Section.TheVariants.{Rules}
use Rattle.sheet.specs.Place.{Expected, Entry, place, tests_at}
use Rattle.sheet.specs.Fault.{FaultBy}

-- `max`, `min` or `fix`: another word is refused with 3
abbrev pub former_kind_tests : List ℕ → Tests
former_kind_tests f = (answers (kind_of f) || is_retired f, C.WrongFields) ∷ []

module _ (sheet : List ℕ) where
  -- the tests of what is expected on a line; a rule's line has those of a rule with a former kind
  abbrev pub former_tests_at : Expected → Network → ℕ → Tests
  former_tests_at (Entry Rules m) Γ at = line_tests (drop at sheet) (rule_tests_by sheet Γ former_kind_tests)
  former_tests_at d Γ at = tests_at sheet d Γ at

  -- of line k. Its place is told as for every sheet: no test asks which kinds the rules above have
  abbrev pub former_tests : ℕ → Tests
  former_tests k = let p = place sheet k in former_tests_at p.expected p.network p.at

-- the sheet is too long, or this is the first line at fault and the first of its tests that fails
abbrev pub FormerFault : List ℕ → Refusal → Type 0
FormerFault sheet r = FaultBy (former_tests sheet) sheet r
