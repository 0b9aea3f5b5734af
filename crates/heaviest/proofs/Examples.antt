-- A text, and what reading some lines answers: for each refusal, one, and where there are two faults the lowest number.
-- Assumes nothing.
use mathlib.Core.Path.{◌≡◌, refl}
use mathlib.Core.Bool.{Bool, true, ◌&&◌}
use mathlib.Core.List.{List, [], ◌∷◌, ◌++◌}
use Prim.Native.Nat.{ℕ}
use Prim.Native.Char.{code}
use Prim.Native.String.{String}
use lib.Dec.{eqb}
use lib.ListN.{replicate}
use Rattle.std.specs.Prelude.{Result, Ok, Err}
use Rattle.prelude.specs.Bytes.{ascii}
use Rattle.text.specs.Lines.{line_feed}
use Rattle.text.specs.Number.{is_number, in_range}
use Rattle.refusal.specs.Refusal.{number_of}
use Rattle.refusal.specs.declared.Refusal.{Refusal}
use Rattle.line.specs.TwoCounts.{two_counts_tests}
use Rattle.heaviest.specs.RingText.{ring_text}
use Rattle.heaviest.specs.Reading.{reading}

abbrev lines : List String → List ℕ
lines [] = []
lines (l ∷ ls) = ascii l ++ line_feed ∷ lines ls

pub ring_text-4-60 : ring_text 4 60
    ≡ lines ("horizon,60"
    ∷ "events,4" ∷ "a" ∷ "b" ∷ "c" ∷ "d"
    ∷ "signals,0"
    ∷ "rules,3" ∷ "min,b,c,0,-" ∷ "min,c,d,0,-" ∷ "min,d,b,1,-"
    ∷ [])
unfolding ring_text
ring_text-4-60 = refl

-- with two events the one row leads from b to b
pub ring_text-2-0 : ring_text 2 0
    ≡ lines ("horizon,0" ∷ "events,2" ∷ "a" ∷ "b" ∷ "signals,0" ∷ "rules,1" ∷ "min,b,b,1,-" ∷ [])
unfolding ring_text
ring_text-2-0 = refl

-- the answer has these two numbers: n and h, or a refusal's number and its line
abbrev is : Result (ℕ × ℕ) Refusal → ℕ → ℕ → Bool
is (Ok p) n h = eqb p.0 n && eqb p.1 h
is (Err r) n k = eqb (number_of r.cause) n && eqb r.line k

abbrev reads : List String → ℕ → ℕ → Bool
reads ls n h = is (reading (lines ls)) n h

abbrev all : List Bool → Bool
all [] = true
all (b ∷ bs) = b && all bs

pub reading-table :
    all
    (reads ("4,60" ∷ []) 4 60
    ∷ reads ("16,10080" ∷ []) 16 10080
    ∷ reads ("2,0" ∷ []) 2 0
    -- longer than a sheet may be, and no line feed
    ∷ is (reading (replicate 4097 (code "1"))) 1 0
    ∷ is (reading []) 2 1
    ∷ is (reading (ascii "4,60")) 2 1
    ∷ reads ("4" ∷ []) 3 1
    ∷ reads ("4,60,-" ∷ "x" ∷ []) 3 1
    ∷ reads ("4,060" ∷ []) 4 1
    ∷ reads ("1,-0" ∷ []) 4 1
    ∷ reads ("1,60" ∷ []) 5 1
    ∷ reads ("17,60" ∷ "x" ∷ []) 5 1
    ∷ reads ("4,10081" ∷ []) 5 1
    ∷ reads ("4,60" ∷ "" ∷ []) 10 2
    ∷ reads ("4,60" ∷ "x" ∷ []) 10 2
    ∷ []) ≡ true
unfolding reading two_counts_tests is_number in_range
reading-table = refl
