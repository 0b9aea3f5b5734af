-- Sheets and what reading them answers: refusals 1 to 9, and 22, with their lines, in the horizon, the events, the
-- signals and the rules, and sheets of those that are accepted. One table, which one theorem covers by computation.
-- Assumes nothing.
use mathlib.Core.Path.{◌≡◌, refl}
use mathlib.Core.Bool.{true}
use mathlib.Core.List.{List, [], ◌∷◌, ◌++◌}
use lib.ListN.{replicate}
use Rattle.prelude.specs.Bytes.{ascii}
use Rattle.text.specs.Number.{is_number, in_range}
use Rattle.line.specs.Tests.{section_tests, event_tests, signal_tests, kind_tests, ends_tests, rule_tests}
use Rattle.line.specs.Tests.{letter_tests, reaction_tests, placed_tests, label_tests}
use Rattle.line.specs.Labelling.{whole_tests}
use Rattle.sheet.specs.Reading.{progress}
use Rattle.sheet.proofs.ExampleSheets.{Example, refused, accepted, lines, sheet_of, hour, two, none, one, rule}
use Rattle.sheet.proofs.ExampleSheets.{all_end}

abbrev examples : List Example
examples =
    -- 1, 2: too long; a line is missing, or has no line feed
    refused 1 0 (replicate 4097 0)
    ∷ refused 2 1 []
    ∷ refused 2 1 (ascii "horizon,60")
    ∷ refused 2 3 (lines ("horizon,60" ∷ "events,1" ∷ []))
    ∷ refused 2 5 (lines (hour ++ two))
    ∷ refused 2 7 (sheet_of hour two none ("rules,1" ∷ []))
    -- 3: fields, section words and kinds
    ∷ refused 3 1 (lines ("horizon" ∷ []))
    ∷ refused 3 1 (lines ("horizon,60," ∷ []))
    ∷ refused 3 1 (lines ("Horizon,60" ∷ []))
    ∷ refused 3 2 (lines ("horizon,60" ∷ "event,1" ∷ []))
    ∷ refused 3 3 (lines ("horizon,60" ∷ "events,1" ∷ "start,0" ∷ []))
    ∷ refused 3 8 (rule "max,start,door,5")
    ∷ refused 3 8 (rule "most,start,door,5,-")
    -- 22: a kind that is retired
    ∷ refused 22 9 (sheet_of hour two one ("rules,2" ∷ "max,start,door,5,-" ∷ "fix,start,door,5,-" ∷ []))
    -- 4, 5: numbers
    ∷ refused 4 1 (lines ("horizon,010" ∷ []))
    ∷ refused 4 1 (lines ("horizon,-0" ∷ []))
    ∷ refused 4 1 (lines ("horizon,+5" ∷ []))
    ∷ refused 4 1 (lines ("horizon," ∷ []))
    ∷ refused 4 8 (rule "max,start,door,-0,-")
    ∷ refused 5 1 (lines ("horizon,10081" ∷ []))
    ∷ refused 5 1 (lines ("horizon,-1" ∷ []))
    ∷ refused 5 1 (lines ("horizon,99999999999999999999999999" ∷ []))
    ∷ refused 5 2 (lines ("horizon,60" ∷ "events,0" ∷ []))
    ∷ refused 5 2 (lines ("horizon,60" ∷ "events,17" ∷ []))
    ∷ refused 5 5 (sheet_of hour two ("signals,5" ∷ []) [])
    ∷ refused 5 6 (sheet_of hour two none ("rules,65" ∷ []))
    ∷ refused 5 8 (rule "max,start,door,10081,-")
    ∷ refused 5 8 (rule "max,start,door,-10081,-")
    -- 6: names, letters and labels
    ∷ refused 6 3 (lines ("horizon,60" ∷ "events,1" ∷ "Start" ∷ []))
    ∷ refused 6 3 (lines ("horizon,60" ∷ "events,1" ∷ "ninebytes" ∷ []))
    ∷ refused 6 3 (lines ("horizon,60" ∷ "events,1" ∷ "" ∷ []))
    ∷ refused 6 6 (sheet_of hour two ("signals,1" ∷ "pq,door" ∷ []) [])
    ∷ refused 6 8 (rule "max,start,door,5,")
    ∷ refused 6 8 (rule "max,start,door,5,p!")
    ∷ refused 6 8 (rule "max,start,door,5,!!p")
    -- 7: defined twice
    ∷ refused 7 4 (lines ("horizon,60" ∷ "events,2" ∷ "start" ∷ "start" ∷ []))
    ∷ refused 7 7 (sheet_of hour two ("signals,2" ∷ "p,door" ∷ "p,start" ∷ []) [])
    ∷ refused 7 7 (sheet_of hour two ("signals,2" ∷ "p,door" ∷ "q,door" ∷ []) [])
    -- 8, 9: not defined; a letter twice
    ∷ refused 8 6 (sheet_of hour two ("signals,1" ∷ "p,lock" ∷ []) [])
    ∷ refused 8 8 (rule "max,start,lock,5,-")
    ∷ refused 8 8 (rule "max,start,door,5,q")
    ∷ refused 9 8 (rule "max,start,door,5,p!p")
    ∷ refused 9 8 (rule "max,start,door,5,pp")
    -- two faults on one line: the lowest number, but 22 directly after 3; on two lines: the first
    ∷ refused 3 8 (rule "most,start,lock,010,p!p")
    ∷ refused 22 8 (rule "fix,start,lock,010,p!p")
    ∷ refused 4 8 (rule "max,start,lock,010,p!p")
    ∷ refused 5 8 (rule "max,Start,lock,10081,p!p")
    ∷ refused 6 8 (rule "max,Start,lock,5,p!p")
    ∷ refused 8 8 (rule "max,start,lock,5,p!p")
    ∷ refused 8 8 (rule "max,start,door,5,ppq")
    ∷ refused 7 7 (sheet_of hour two ("signals,2" ∷ "p,door" ∷ "p,lock" ∷ []) [])
    ∷ refused 6 3 (lines ("horizon,60" ∷ "events,1" ∷ "Start" ∷ "signals,5" ∷ []))
    -- accepted: the ends of the ranges, a rule from an event to itself, and rules that repeat
    ∷ accepted (sheet_of ("horizon,10080" ∷ []) two none ("rules,0" ∷ []))
    ∷ accepted (sheet_of ("horizon,0" ∷ []) ("events,1" ∷ "a234567z" ∷ []) none ("rules,0" ∷ []))
    ∷ accepted (rule "max,start,start,0,-")
    ∷ accepted (rule "max,start,door,10080,p")
    ∷ accepted (rule "min,door,start,-10080,!p")
    ∷ accepted (sheet_of hour two one ("rules,2" ∷ "max,start,door,5,p" ∷ "max,start,door,5,p" ∷ []))
    ∷ []

pub examples_end : all_end examples ≡ true
unfolding is_number in_range section_tests event_tests signal_tests kind_tests ends_tests rule_tests letter_tests
    reaction_tests placed_tests label_tests whole_tests progress
examples_end = refl
