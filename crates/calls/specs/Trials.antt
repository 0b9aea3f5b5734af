-- The trial sheets and what `table` prints for each: one table. The fourth has a `fix` row: it "now runs through the
-- converter", is converted and then solved, and `table` refuses it with 22 as it was written. And the first of them,
-- played: what is due in it, in a table that fails and in one that is too short.
use Rattle.std.specs.Prelude.{◌≡◌, Bool, true, false, ◌&&◌, List, [], ◌∷◌, ◌++◌, ℕ, eqb, take, get_or}
use Prim.Native.String.{String}
use Rattle.prelude.specs.Bytes.{ascii, same}
use Rattle.text.specs.Lines.{line_feed}
use Rattle.dispatch.specs.declared.Heard.{Heard}
use Rattle.calls.specs.Values.{number_values}
use Rattle.calls.specs.Play.{events_due_lem}
use Rattle.calls.specs.Table.{table_text, converted_text}

-- lines of text, each with its line feed
abbrev pub lines : List String → List ℕ
lines [] = []
lines (l ∷ ls) = ascii l ++ line_feed ∷ lines ls

-- a trial: the sheet, and the lines that `table` prints
pub record Trial : Type 0 where
  pub sheet : List ℕ
  pub prints : List String

abbrev pub trial : List String → List String → Trial
trial s t = record { sheet = lines s; prints = t }

-- one that runs through the converter: what `convert` prints is the sheet
abbrev pub through : List String → List String → Trial
through s t = record { sheet = converted_text (lines s); prints = t }

-- the head of a sheet with start, call and door, where p is given at call
abbrev pub safe : List String → List String
safe rules = "horizon,60" ∷ "events,3" ∷ "start" ∷ "call" ∷ "door" ∷ "signals,1" ∷ "p,call" ∷ rules

-- start and door, and no signal
abbrev pub plain : String → String → List String
plain horizon rule = horizon ∷ "events,2" ∷ "start" ∷ "door" ∷ "signals,0" ∷ "rules,1" ∷ rule ∷ []

-- start alone
abbrev pub alone : List String → List String
alone rules = "horizon,60" ∷ "events,1" ∷ "start" ∷ "signals,0" ∷ rules

abbrev pub no_table : List String
no_table = "refused 13 line 0" ∷ []

-- the fourth as document 01 has it, and what it becomes
abbrev pub fourth : List String
fourth = safe ("rules,3" ∷ "min,start,call,5,-" ∷ "min,call,door,15,p" ∷ "fix,start,door,20,-" ∷ [])

abbrev pub converted_fourth : List String
converted_fourth =
    safe ("rules,4" ∷ "min,start,call,5,-" ∷ "min,call,door,15,p" ∷ "max,start,door,20,-" ∷ "min,start,door,20,-" ∷ [])

abbrev pub trials : List Trial
trials =
    -- 1
    trial (safe ("rules,3" ∷ "min,start,call,5,-" ∷ "min,call,door,15,p" ∷ "max,start,door,30,-" ∷ []))
    ("case,start,call,door" ∷ "F,0,5,6" ∷ "T,0,5,20" ∷ [])
    -- 2
    ∷ trial (safe ("rules,3" ∷ "min,start,call,5,-" ∷ "min,call,door,15,p" ∷ "max,start,door,20,-" ∷ []))
    ("case,start,call,door" ∷ "F,0,5,6" ∷ "T,0,5,20" ∷ [])
    -- 3
    ∷ trial (safe ("rules,3" ∷ "min,start,call,5,-" ∷ "min,call,door,15,p" ∷ "max,start,door,19,-" ∷ [])) no_table
    -- 4
    ∷ through fourth
    ("case,start,call,door" ∷ "F,0,5,20" ∷ "T,0,5,20" ∷ [])
    -- 5
    ∷ trial (alone ("rules,0" ∷ [])) ("case,start" ∷ "-,0" ∷ [])
    -- 6
    ∷ trial (alone ("rules,1" ∷ "max,start,start,0,-" ∷ [])) ("case,start" ∷ "-,0" ∷ [])
    -- 7
    ∷ trial (alone ("rules,1" ∷ "max,start,start,-1,-" ∷ [])) no_table
    -- 8
    ∷ trial (plain "horizon,10" "min,start,door,10,-") ("case,start,door" ∷ "-,0,10" ∷ [])
    ∷ trial (plain "horizon,9" "min,start,door,10,-") no_table
    -- 9
    ∷ trial (plain "horizon,60" "max,door,start,-5,-") ("case,start,door" ∷ "-,0,5" ∷ [])
    -- 10
    ∷ trial ("horizon,60" ∷ "events,2" ∷ "start" ∷ "door" ∷ "signals,1" ∷ "p,start" ∷ "rules,1"
    ∷ "min,start,door,10,p" ∷ [])
    ("case,start,door" ∷ "F,0,1" ∷ "T,0,10" ∷ [])
    -- 11
    ∷ trial (safe ("rules,3" ∷ "min,start,call,5,-" ∷ "min,start,door,10,p" ∷ "max,start,door,6,!p" ∷ []))
    ("case,start,call,door" ∷ "F,0,5,6" ∷ "T,0,5,10" ∷ [])
    ∷ trial (safe ("rules,3" ∷ "min,start,call,5,-" ∷ "min,start,door,10,p" ∷ "max,start,door,5,!p" ∷ [])) no_table
    ∷ []

abbrev pub all_agree : List Trial → Bool
all_agree [] = true
all_agree (t ∷ ts) = same (table_text t.sheet) (lines t.prints) && all_agree ts

-- of the first trial: a table, a minute, a list, and the number and the events that are answered
pub record Question : Type 0 where
  pub table : List ℕ
  pub minute : ℕ
  pub list : List Heard
  pub number : ℕ
  pub events : ℕ

abbrev pub asked : List ℕ → ℕ → List Heard → ℕ → ℕ → Question
asked t m hs n e = record { table = t; minute = m; list = hs; number = n; events = e }

abbrev pub is : String → Bool → Heard
is l v = record { letter = get_or (ascii l) 0 0; truth = v }

abbrev pub good : List ℕ
good = 0 ∷ 5 ∷ 6 ∷ 0 ∷ 5 ∷ 20 ∷ []

-- the door opens before the call is heard
abbrev pub failing : List ℕ
failing = 0 ∷ 5 ∷ 5 ∷ 0 ∷ 5 ∷ 20 ∷ []

abbrev pub questions : List Question
questions =
    asked good 5 [] 0 2
    ∷ asked good 6 (is "p" false ∷ []) 0 4
    ∷ asked good 20 (is "p" true ∷ []) 0 4
    ∷ asked good 6 [] 16 0
    ∷ asked good 6 (is "q" true ∷ []) 15 0
    -- 14 comes before 15, and 11 before 14
    ∷ asked failing 6 (is "q" true ∷ []) 14 0
    ∷ asked (take 5 failing) 6 (is "q" true ∷ []) 11 0
    ∷ []

abbrev pub first : List ℕ
first = lines (safe ("rules,3" ∷ "min,start,call,5,-" ∷ "min,call,door,15,p" ∷ "max,start,door,30,-" ∷ []))

abbrev pub all_answered : List Question → Bool
all_answered [] = true
all_answered (q ∷ qs) =
    let v = number_values (events_due_lem first q.table q.minute q.list) in
    (eqb v.number q.number && (eqb v.line 0 && eqb v.value q.events)) && all_answered qs

pub record Trials : Type 0 where
  pub agree : all_agree trials ≡ true
  pub converted : same (converted_text (lines fourth)) (lines converted_fourth) ≡ true
  pub retired : same (table_text (lines fourth)) (lines ("refused 22 line 11" ∷ [])) ≡ true
  pub played : all_answered questions ≡ true
