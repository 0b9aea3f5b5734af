-- Lines and why they are refused, by their fields: refusals 3 to 9, and 22, and lines that pass. One table, which one
-- theorem covers by computation. Assumes nothing.
use mathlib.Core.Path.{◌≡◌, refl}
use mathlib.Core.Bool.{Bool, true, false, ◌&&◌}
use mathlib.Core.Option.{Option, none, some}
use mathlib.Core.List.{List, [], ◌∷◌}
use Prim.Native.Nat.{ℕ}
use Prim.Native.String.{String}
use lib.Dec.{eqb}
use Rattle.prelude.specs.Checks.{first_failing_lem}
use Rattle.prelude.specs.Bytes.{ascii}
use Rattle.text.specs.Lines.{fields}
use Rattle.text.specs.Number.{is_number, in_range}
use Rattle.refusal.specs.Refusal.{number_of}
use Rattle.refusal.specs.declared.Cause.{Cause}
use Rattle.network.specs.declared.Network.{Network}
use Rattle.line.specs.Tests.{section_tests, event_tests, signal_tests, kind_tests, ends_tests, rule_tests}
use Rattle.line.specs.Tests.{letter_tests, reaction_tests, placed_tests, label_tests}
use Rattle.line.specs.TwoCounts.{two_counts_tests}
use Rattle.line.specs.Sections.{heading_of_lem, heading_tests}
use Rattle.line.specs.declared.Section.TheVariants.{Events, Cases}

-- two events by their names, of which the second gives the signal p
abbrev names : List ℕ
names = ascii "startdoor"

-- a network by its parts
abbrev parts_of : ℕ → List ℕ → List ℕ → ℕ → List ℕ → List ℕ → List ℕ → List Bool → Network
parts_of n starts lengths k letters observations reactions labelled = record {
  horizon = 0;
  events = n;
  starts = starts;
  lengths = lengths;
  signals = k;
  letters = letters;
  observations = observations;
  reactions = reactions;
  rules = 0;
  constraints = [];
  labels = [];
  labelled = labelled;
}

abbrev before : Network
before = parts_of 2 (0 ∷ 5 ∷ []) (5 ∷ 4 ∷ []) 1 (ascii "p") (1 ∷ []) (0 ∷ []) (false ∷ false ∷ [])

-- the number of a line's refusal, or 0, and the refusal
abbrev Example : Type 0
Example = ℕ × Option Cause

abbrev events : ℕ → String → Example
events n l = (n, first_failing_lem (heading_tests (heading_of_lem 2 Events) (fields (ascii l))))

abbrev event : ℕ → String → Example
event n l = (n, first_failing_lem (event_tests names before (fields (ascii l))))

abbrev signal : ℕ → String → Example
signal n l = (n, first_failing_lem (signal_tests names before (fields (ascii l))))

abbrev rule : ℕ → String → Example
rule n l = (n, first_failing_lem (rule_tests names before (fields (ascii l))))

abbrev reaction : ℕ → String → Example
reaction n l = (n, first_failing_lem (reaction_tests before (fields (ascii l))))

-- where p has a line already
abbrev again : ℕ → String → Example
again n l =
    let behind = parts_of 2 (0 ∷ 5 ∷ []) (5 ∷ 4 ∷ []) 1 (ascii "p") (1 ∷ []) (1 ∷ []) (false ∷ false ∷ []) in
    (n, first_failing_lem (reaction_tests behind (fields (ascii l))))

-- as many lines of the section `cases` as there are events, and no more
abbrev cases : ℕ → String → Example
cases n l = (n, first_failing_lem (heading_tests (heading_of_lem 2 Cases) (fields (ascii l))))

abbrev label : ℕ → String → Example
label n l = (n, first_failing_lem (label_tests names before (fields (ascii l))))

-- where the door has a line already
abbrev labelled_twice : ℕ → String → Example
labelled_twice n l =
    let behind = parts_of 2 (0 ∷ 5 ∷ []) (5 ∷ 4 ∷ []) 1 (ascii "p") (1 ∷ []) (0 ∷ []) (false ∷ true ∷ []) in
    (n, first_failing_lem (label_tests names behind (fields (ascii l))))

-- two counts: the first from 2 to 16, the second from 0 to 10,080
abbrev counts : ℕ → String → Example
counts n l = (
  n,
  first_failing_lem (two_counts_tests (record { least = 2; most = 16 }) (record { least = 0; most = 10080 })
      (fields (ascii l))),
)

abbrev examples : List Example
examples =
    -- a section's line
    events 3 "event,1"
    ∷ events 4 "events,01"
    ∷ events 5 "events,0"
    ∷ events 5 "events,17"
    ∷ events 0 "events,16"
    -- an event
    ∷ event 3 "lock,0"
    ∷ event 6 "Lock"
    ∷ event 7 "door"
    ∷ event 0 "lock"
    -- a signal; two faults: the lowest number
    ∷ signal 3 "q"
    ∷ signal 6 "pq,door"
    ∷ signal 7 "p,start"
    ∷ signal 7 "q,door"
    ∷ signal 8 "q,lock"
    ∷ signal 7 "p,lock"
    ∷ signal 0 "q,start"
    -- a rule; two faults: the lowest number, but 22 directly after 3
    ∷ rule 3 "most,start,door,5,-"
    ∷ rule 3 "fox,start,door,5,-"
    ∷ rule 3 "fix,start,door,5"
    ∷ rule 3 "fix,start,door,5,-,-"
    ∷ rule 22 "fix,start,door,5,-"
    ∷ rule 22 "fix,start,door,-0,-"
    ∷ rule 22 "fix,start,door,10081,-"
    ∷ rule 4 "max,start,door,-0,-"
    ∷ rule 5 "max,start,door,10081,-"
    ∷ rule 6 "max,start,door,5,p!"
    ∷ rule 8 "max,start,lock,5,-"
    ∷ rule 8 "max,start,door,5,q"
    ∷ rule 9 "max,start,door,5,p!p"
    ∷ rule 8 "max,start,door,5,ppq"
    ∷ rule 0 "min,door,start,-10080,!p"
    -- a rule from an event to itself
    ∷ rule 0 "max,start,start,0,-"
    -- a reaction; two faults: the lowest number
    ∷ reaction 3 "p"
    ∷ reaction 4 "p,"
    ∷ reaction 5 "p,0"
    ∷ reaction 5 "P,61"
    ∷ reaction 5 "p,-1"
    ∷ reaction 6 "P,60"
    ∷ reaction 6 "pq,60"
    ∷ again 7 "p,2"
    ∷ again 8 "q,2"
    ∷ reaction 8 "q,2"
    ∷ reaction 0 "p,1"
    ∷ reaction 0 "p,60"
    -- the section of labels, and a label; two faults: the lowest number
    ∷ cases 3 "case,1"
    ∷ cases 4 "cases,"
    ∷ cases 5 "cases,3"
    ∷ cases 5 "cases,-1"
    ∷ cases 0 "cases,2"
    ∷ cases 0 "cases,0"
    ∷ label 3 "door"
    ∷ label 3 "door,p,q"
    ∷ label 6 "Door,p"
    ∷ label 6 "door,"
    ∷ label 6 "lock,p!"
    ∷ labelled_twice 7 "door,-"
    ∷ labelled_twice 7 "door,qq"
    ∷ label 8 "lock,-"
    ∷ label 8 "door,q"
    ∷ label 8 "door,qq"
    ∷ label 9 "door,p!p"
    ∷ label 0 "door,-"
    ∷ label 0 "door,!p"
    ∷ labelled_twice 0 "start,p"
    -- two counts; two faults: the lowest number, whichever field it is of
    ∷ counts 3 "4"
    ∷ counts 3 "4,60,"
    ∷ counts 4 "04,60"
    ∷ counts 4 "1,-0"
    ∷ counts 4 "17,x"
    ∷ counts 5 "1,60"
    ∷ counts 5 "17,10080"
    ∷ counts 5 "-4,60"
    ∷ counts 5 "4,10081"
    ∷ counts 0 "2,0"
    ∷ counts 0 "16,10080"
    ∷ []

abbrev number : Option Cause → ℕ
number none = 0
number (some c) = number_of c

abbrev all_are : List Example → Bool
all_are [] = true
all_are (x ∷ xs) = eqb (number x.1) x.0 && all_are xs

pub examples_are : all_are examples ≡ true
unfolding is_number in_range section_tests event_tests signal_tests kind_tests ends_tests rule_tests letter_tests
    reaction_tests placed_tests label_tests two_counts_tests
examples_are = refl
