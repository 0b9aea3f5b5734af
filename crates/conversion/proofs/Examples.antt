-- Lines that are `fix` rows and lines that are not, former sheets with what they become, and rows with the numbers by
-- which the former rules refuse them: one table each, which one theorem each covers by computation. Assumes nothing.
use mathlib.Core.Path.{◌≡◌, refl}
use mathlib.Core.Bool.{Bool, true, not, ◌&&◌}
use mathlib.Core.List.{List, [], ◌∷◌, ◌++◌}
use mathlib.Core.Option.{none, some}
use Prim.Native.Nat.{ℕ}
use Prim.Native.String.{String}
use lib.Dec.{eqb}
use Rattle.prelude.specs.Bytes.{same}
use Rattle.prelude.specs.Checks.{first_failing_lem}
use Rattle.text.specs.Number.{is_number, in_range}
use Rattle.refusal.specs.Refusal.{number_of}
use Rattle.line.specs.Tests.{section_tests, event_tests, signal_tests, kind_tests, ends_tests, rule_tests, letter_tests}
use Rattle.line.specs.Tests.{reaction_tests, placed_tests, label_tests}
use Rattle.line.specs.Labelling.{whole_tests}
use Rattle.sheet.specs.Reading.{progress, network_of}
use Rattle.sheet.proofs.ExampleSheets.{lines, hour, two, none as no_signal}
use Rattle.conversion.specs.Rows.{is_fix_lem}
use Rattle.conversion.specs.FormerRules.{read_as_max_lem}
use Rattle.conversion.specs.FormerFault.{former_tests}
use Rattle.conversion.specs.Converted.{converted}

-- those that are `fix` rows, whatever stands behind the kind
abbrev rows : List String
rows = "fix,start,door,20,-" ∷ "fix,fix,fix,-5,p!q" ∷ "fix,,,," ∷ []

-- those that are not: too few fields or too many, another kind, and `fix` in another place
abbrev others : List String
others =
    "" ∷ "fix" ∷ "fix,p" ∷ "fix,start,door,20" ∷ "fix,start,door,20,-," ∷ "Fix,start,door,20,-"
    ∷ "fixed,start,door,20,-" ∷ " fix,start,door,20,-" ∷ "max,fix,fix,20,-" ∷ "min,start,door,20,fix" ∷ []

abbrev all_fix : List String → Bool
all_fix [] = true
all_fix (l ∷ ls) = is_fix_lem (lines (l ∷ [])) && all_fix ls

abbrev none_fix : List String → Bool
none_fix [] = true
none_fix (l ∷ ls) = not (is_fix_lem (lines (l ∷ []))) && none_fix ls

pub rows_fix : all_fix rows && none_fix others ≡ true
unfolding is_fix_lem
rows_fix = refl

-- a former sheet, and what it becomes
record Example : Type 0 where
  sheet : List String
  becomes : List String

abbrev example : List String → List String → Example
example s t = record { sheet = s; becomes = t }

-- two events and no signal, and then these lines
abbrev plain : List String → List String
plain rules = hour ++ (two ++ (no_signal ++ rules))

-- an event that is named as the kind, a signal, and then these lines
abbrev named : List String → List String
named rules = hour ++ ("events,2" ∷ "start" ∷ "fix" ∷ "signals,1" ∷ "p,start" ∷ rules)

-- four rules
abbrev four : List String
four = "max,start,door,9,-" ∷ "min,door,start,-9,-" ∷ "max,start,start,0,-" ∷ "min,start,door,0,-" ∷ []

abbrev examples : List Example
examples =
    example (plain ("rules,1" ∷ "fix,start,door,20,-" ∷ []))
    (plain ("rules,2" ∷ "max,start,door,20,-" ∷ "min,start,door,20,-" ∷ []))
    -- what is no `fix` row stays, also where it has the word
    ∷ example (named ("rules,1" ∷ "fix,start,fix,-7,p" ∷ "reactions,1" ∷ "p,1" ∷ "cases,1" ∷ "fix,p" ∷ []))
    (named ("rules,2" ∷ "max,start,fix,-7,p" ∷ "min,start,fix,-7,p" ∷ "reactions,1" ∷ "p,1" ∷ "cases,1" ∷ "fix,p" ∷ []))
    -- a digit more in the count; the other rules stay where they are
    ∷ example (plain ("rules,9" ∷ four ++ "fix,door,start,-9,-" ∷ four))
    (plain ("rules,10" ∷ four ++ "max,door,start,-9,-" ∷ "min,door,start,-9,-" ∷ four))
    -- none
    ∷ example (plain ("rules,4" ∷ four)) (plain ("rules,4" ∷ four))
    ∷ []

abbrev all_become : List Example → Bool
all_become [] = true
all_become (e ∷ es) =
    let s = lines e.sheet in
    same (converted s (network_of (read_as_max_lem s))) (lines e.becomes) && all_become es

pub examples_become : all_become examples ≡ true
unfolding is_number in_range section_tests event_tests signal_tests kind_tests ends_tests rule_tests letter_tests
    reaction_tests placed_tests label_tests whole_tests progress is_fix_lem read_as_max_lem converted
examples_become = refl

-- a row, and the number by which former rules refuse it where it is the only rule of a plain sheet; 0 where they don't
record Row : Type 0 where
  row : String
  number : ℕ

abbrev refused : String → ℕ → Row
refused l n = record { row = l; number = n }

abbrev former_rows : List Row
former_rows =
    refused "fix,start,door,20,-" 0 ∷ refused "max,start,door,20,-" 0 ∷ refused "fix,start,door,20" 3
    ∷ refused "fox,start,door,20,-" 3 ∷ refused "fix,start,door,020,-" 4 ∷ refused "fix,start,door,10081,-" 5
    ∷ refused "fix,Start,door,20,-" 6 ∷ refused "fix,start,gate,20,-" 8 ∷ refused "fix,start,door,20,p" 8 ∷ []

-- the row stands on line 6, counted from 0, and a good `fix` row above it on line 7
abbrev number_at : List String → ℕ → ℕ
number_at rules k =
    elim (first_failing_lem (former_tests (lines (plain rules)) k)) [ none ↦ 0 | some c ↦ number_of c ]

abbrev all_refused : List Row → Bool
all_refused [] = true
all_refused (r ∷ rs) =
    eqb (number_at ("rules,1" ∷ r.row ∷ []) 6) r.number
    && (eqb (number_at ("rules,2" ∷ "fix,door,start,0,-" ∷ r.row ∷ []) 7) r.number && all_refused rs)

pub rows-refused : all_refused former_rows ≡ true
unfolding is_number in_range section_tests event_tests signal_tests kind_tests ends_tests rule_tests letter_tests
    reaction_tests placed_tests label_tests whole_tests
rows-refused = refl
