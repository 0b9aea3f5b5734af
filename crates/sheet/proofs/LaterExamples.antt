-- Sheets with reactions and cases, and what reading them answers: refusals 2 to 9, 20 and 21 in those sections, and 10
-- behind them, with their lines, and sheets that are accepted. One table, which one theorem covers by computation.
-- Assumes nothing.
use mathlib.Core.Path.{◌≡◌, refl}
use mathlib.Core.Bool.{true}
use mathlib.Core.List.{List, [], ◌∷◌, ◌++◌}
use Prim.Native.String.{String}
use Prim.Native.Nat.{ℕ}
use Rattle.prelude.specs.Bytes.{ascii}
use Rattle.text.specs.Number.{is_number, in_range}
use Rattle.line.specs.Tests.{section_tests, event_tests, signal_tests, kind_tests, ends_tests, rule_tests}
use Rattle.line.specs.Tests.{letter_tests, reaction_tests, placed_tests, label_tests}
use Rattle.line.specs.Labelling.{whole_tests}
use Rattle.sheet.specs.Reading.{progress}
use Rattle.sheet.proofs.ExampleSheets.{Example, refused, accepted, lines, sheet_of, hour, two, none, one, rule}
use Rattle.sheet.proofs.ExampleSheets.{all_end}

-- no rule, and then these lines, from line 8 on
abbrev reactions : List String → List ℕ
reactions r = sheet_of hour two one ("rules,0" ∷ r)

-- two signals, one rule and no reaction, and then these lines, from line 12 on
abbrev labels : String → List String → List ℕ
labels r c =
    lines (hour ++ ("events,3" ∷ "start" ∷ "door" ∷ "lock" ∷ []) ++ ("signals,2" ∷ "p,door" ∷ "q,lock" ∷ [])
    ++ ("rules,1" ∷ r ∷ "reactions,0" ∷ c))

-- the same with a rule that holds in every case
abbrev cases : List String → List ℕ
cases c = labels "max,start,door,5,-" c

abbrev examples : List Example
examples =
    -- reactions: bytes behind the last rule begin their section
    refused 3 7 (sheet_of hour two none ("rules,0" ∷ "" ∷ []))
    ∷ refused 2 9 (rule "max,start,door,5,p" ++ ascii "x")
    ∷ refused 3 7 (sheet_of hour two one ("reactions,0" ∷ "rules,0" ∷ []))
    ∷ refused 4 8 (reactions ("reactions,01" ∷ []))
    ∷ refused 5 8 (reactions ("reactions,5" ∷ []))
    ∷ refused 2 9 (reactions ("reactions,1" ∷ []))
    ∷ refused 3 9 (reactions ("reactions,1" ∷ "p" ∷ []))
    ∷ refused 4 9 (reactions ("reactions,1" ∷ "p,+1" ∷ []))
    ∷ refused 5 9 (reactions ("reactions,1" ∷ "p,0" ∷ []))
    ∷ refused 5 9 (reactions ("reactions,1" ∷ "p,61" ∷ []))
    ∷ refused 6 9 (reactions ("reactions,1" ∷ "P,2" ∷ []))
    ∷ refused 7 10 (reactions ("reactions,2" ∷ "p,1" ∷ "p,2" ∷ []))
    ∷ refused 8 9 (reactions ("reactions,1" ∷ "q,2" ∷ []))
    -- cases: bytes behind the reactions begin their section, which does not follow the rules
    ∷ refused 3 9 (reactions ("reactions,0" ∷ "" ∷ []))
    ∷ refused 2 10 (reactions ("reactions,1" ∷ "p,60" ∷ []) ++ ascii "x")
    ∷ refused 3 9 (reactions ("reactions,0" ∷ "reactions,0" ∷ []))
    ∷ refused 3 8 (reactions ("cases,0" ∷ []))
    ∷ refused 4 9 (reactions ("reactions,0" ∷ "cases,00" ∷ []))
    ∷ refused 5 9 (reactions ("reactions,0" ∷ "cases,3" ∷ []))
    ∷ refused 2 13 (cases ("cases,1" ∷ []))
    ∷ refused 3 13 (cases ("cases,1" ∷ "door" ∷ []))
    ∷ refused 6 13 (cases ("cases,1" ∷ "door,p!" ∷ []))
    ∷ refused 7 14 (cases ("cases,2" ∷ "door,-" ∷ "door,-" ∷ []))
    ∷ refused 8 13 (cases ("cases,1" ∷ "door,r" ∷ []))
    ∷ refused 9 13 (cases ("cases,1" ∷ "door,qq" ∷ []))
    -- 20, 21: with the section's last line, behind its other faults and before bytes that follow
    ∷ refused 20 13 (cases ("cases,1" ∷ "start,p" ∷ []))
    ∷ refused 20 14 (cases ("cases,2" ∷ "start,p" ∷ "lock,-" ∷ []))
    ∷ refused 20 14 (labels "max,start,door,5,p" ("cases,2" ∷ "start,p" ∷ "door,q" ∷ []))
    ∷ refused 7 14 (cases ("cases,2" ∷ "start,p" ∷ "start,-" ∷ []))
    ∷ refused 2 14 (cases ("cases,2" ∷ "start,p" ∷ []))
    ∷ refused 21 13 (labels "max,start,door,5,p" ("cases,1" ∷ "door,q" ∷ []))
    ∷ refused 21 13 (labels "max,start,door,5,p!q" ("cases,1" ∷ "door,q" ∷ []))
    ∷ refused 21 14 (cases ("cases,2" ∷ "lock,p" ∷ "door,q" ∷ []))
    ∷ refused 21 13 (labels "max,start,door,5,p" ("cases,1" ∷ "door,q" ∷ []) ++ ascii "x")
    -- 10: bytes behind the last section
    ∷ refused 10 13 (cases ("cases,0" ∷ "" ∷ []))
    ∷ refused 10 14 (cases ("cases,1" ∷ "door,-" ∷ []) ++ ascii "x")
    ∷ refused 10 13 (cases ("cases,0" ∷ "cases,0" ∷ []))
    -- accepted: the ends of the range of a reaction
    ∷ accepted (reactions ("reactions,0" ∷ []))
    ∷ accepted (reactions ("reactions,1" ∷ "p,1" ∷ []))
    ∷ accepted (reactions ("reactions,1" ∷ "p,60" ∷ []))
    -- labels: none, `-` of the start, the event's own signal, parts that are there, a ring
    ∷ accepted (cases ("cases,0" ∷ []))
    ∷ accepted (cases ("cases,1" ∷ "start,-" ∷ []))
    ∷ accepted (cases ("cases,1" ∷ "door,p" ∷ []))
    ∷ accepted (labels "max,start,lock,5,!pq" ("cases,1" ∷ "lock,!p" ∷ []))
    ∷ accepted (cases ("cases,2" ∷ "door,pq" ∷ "lock,qp" ∷ []))
    ∷ []

pub examples_end : all_end examples ≡ true
unfolding is_number in_range section_tests event_tests signal_tests kind_tests ends_tests rule_tests letter_tests
    reaction_tests placed_tests label_tests whole_tests progress
examples_end = refl
