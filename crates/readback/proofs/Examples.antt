-- Listings read back, good ones and each kind of bad one: one table, which one theorem covers by computation. The sheet
-- has the events start and call and one signal. Assumes nothing.
use mathlib.Core.Path.{◌≡◌, refl}
use mathlib.Core.Bool.{Bool, true, ◌&&◌}
use mathlib.Core.Option.{Option, none, some}
use mathlib.Core.List.{List, [], ◌∷◌, ◌++◌}
use Prim.Native.Nat.{ℕ}
use Prim.Native.Char.{code}
use Prim.Native.String.{String}
use lib.Dec.{eqb}
use lib.ListN.{replicate}
use Rattle.prelude.specs.Bytes.{ascii, same}
use Rattle.text.specs.Lines.{line_feed}
use Rattle.text.specs.Number.{is_number, in_range}
use Rattle.readback.specs.Minute.{is_minute, minute_of}
use Rattle.readback.specs.Rows.{is_row_lem, are_minutes, rows_misfit, rows_unread, rows_table, misfit, unread}
use Rattle.readback.specs.Rows.{recovered}

-- lines of text, each with its line feed
abbrev lines : List String → List ℕ
lines [] = []
lines (l ∷ ls) = ascii l ++ line_feed ∷ lines ls

-- the bytes, the number and the line that come of them, and the table where there is one
record Example : Type 0 where
  bytes : List ℕ
  number : ℕ
  line : ℕ
  table : List ℕ

abbrev good : List String → List ℕ → Example
good ls σ = record { bytes = lines ls; number = 0; line = 0; table = σ }

abbrev bytes_bad : ℕ → ℕ → List ℕ → Example
bytes_bad n k s = record { bytes = s; number = n; line = k; table = [] }

abbrev bad : ℕ → ℕ → List String → Example
bad n k ls = bytes_bad n k (lines ls)

-- a row of F with a first minute of so many digits, 31 bytes more than digits in all
abbrev long : ℕ → List ℕ
long n =
    lines ("case,start,call" ∷ []) ++ ascii "F," ++ replicate n (code "1") ++ ascii ",5"
    ++ line_feed ∷ lines ("T,0,65534" ∷ [])

abbrev examples : List Example
examples =
    good ("case,start,call" ∷ "F,0,5" ∷ "T,0,65534" ∷ []) (0 ∷ 5 ∷ 0 ∷ 65534 ∷ [])
    ∷ good ("case,start,call" ∷ "F,10080,99" ∷ "T,1,0" ∷ []) (10080 ∷ 99 ∷ 1 ∷ 0 ∷ [])
    -- a dash, in any cell, is 65,535
    ∷ good ("case,start,call" ∷ "F,0,-" ∷ "T,-,-" ∷ []) (0 ∷ 65535 ∷ 65535 ∷ 65535 ∷ [])
    -- nothing; the header alone; no last line feed
    ∷ bytes_bad 18 1 []
    ∷ bad 18 2 ("case,start,call" ∷ [])
    ∷ bytes_bad 18 3 (lines ("case,start,call" ∷ "F,0,5" ∷ []) ++ ascii "T,0,5")
    -- names exchanged, one missing, one too many
    ∷ bad 18 1 ("case,call,start" ∷ "F,0,5" ∷ "T,0,5" ∷ [])
    ∷ bad 18 1 ("case,start" ∷ "F,0,5" ∷ "T,0,5" ∷ [])
    ∷ bad 18 1 ("case,start,call,door" ∷ "F,0,5" ∷ "T,0,5" ∷ [])
    -- cases exchanged, doubled, missing, one more, an empty line, a byte
    ∷ bad 18 2 ("case,start,call" ∷ "T,0,5" ∷ "F,0,5" ∷ [])
    ∷ bad 18 3 ("case,start,call" ∷ "F,0,5" ∷ "F,0,5" ∷ "T,0,5" ∷ [])
    ∷ bad 18 3 ("case,start,call" ∷ "F,0,5" ∷ [])
    ∷ bad 18 4 ("case,start,call" ∷ "F,0,5" ∷ "T,0,5" ∷ "T,0,5" ∷ [])
    ∷ bad 18 4 ("case,start,call" ∷ "F,0,5" ∷ "T,0,5" ∷ "" ∷ [])
    ∷ bytes_bad 18 4 (lines ("case,start,call" ∷ "F,0,5" ∷ "T,0,5" ∷ []) ++ ascii "x")
    -- marks
    ∷ bad 18 2 ("case,start,call" ∷ "f,0,5" ∷ "T,0,5" ∷ [])
    ∷ bad 18 2 ("case,start,call" ∷ "-,0,5" ∷ "T,0,5" ∷ [])
    ∷ bad 18 3 ("case,start,call" ∷ "F,0,5" ∷ "TT,0,5" ∷ [])
    -- fields too few and too many
    ∷ bad 18 2 ("case,start,call" ∷ "F,0" ∷ "T,0,5" ∷ [])
    ∷ bad 18 3 ("case,start,call" ∷ "F,0,5" ∷ "T,0,5," ∷ [])
    -- no minutes
    ∷ bad 19 2 ("case,start,call" ∷ "F,05,5" ∷ "T,0,5" ∷ [])
    ∷ bad 19 3 ("case,start,call" ∷ "F,0,5" ∷ "T,0,-0" ∷ [])
    ∷ bad 19 3 ("case,start,call" ∷ "F,0,5" ∷ "T,-1,5" ∷ [])
    ∷ bad 19 2 ("case,start,call" ∷ "F,0,+5" ∷ "T,0,+5" ∷ [])
    ∷ bad 19 2 ("case,start,call" ∷ "F,0, 5" ∷ "T,0,5" ∷ [])
    ∷ bad 19 2 ("case,start,call" ∷ "F,0," ∷ "T,0,5" ∷ [])
    ∷ bad 19 2 ("case,start,call" ∷ "F,,5" ∷ "T,0,5" ∷ [])
    ∷ bad 19 2 ("case,start,call" ∷ "F,0,--" ∷ "T,0,5" ∷ [])
    ∷ bad 19 2 ("case,start,call" ∷ "F,0,- " ∷ "T,0,5" ∷ [])
    ∷ bad 19 3 ("case,start,call" ∷ "F,0,-" ∷ "T,0,65535" ∷ [])
    ∷ bad 19 2 ("case,start,call" ∷ "F,0,65536" ∷ "T,0,5" ∷ [])
    ∷ bad 19 2 ("case,start,call" ∷ "F,0,1234567890123456789012345678901234567890" ∷ "T,0,5" ∷ [])
    -- a carriage return
    ∷ bytes_bad 18 1 (ascii "case,start,call" ++ 13 ∷ line_feed ∷ lines ("F,0,5" ∷ "T,0,5" ∷ []))
    ∷ bytes_bad 19 2 (lines ("case,start,call" ∷ []) ++ ascii "F,0,5" ++ 13 ∷ line_feed ∷ lines ("T,0,5" ∷ []))
    -- an 18 on a later line than a 19, and on the same
    ∷ bad 18 3 ("case,start,call" ∷ "F,0,x" ∷ "F,0,5" ∷ [])
    ∷ bad 18 2 ("case,start,call" ∷ "T,0,x" ∷ "T,0,5" ∷ [])
    -- as long as may be, and longer
    ∷ bytes_bad 19 2 (long 4065)
    ∷ bytes_bad 18 1 (long 4066)
    ∷ []

-- 18 is tried over the whole listing before 19
abbrev answered : Example → Option ℕ → Option ℕ → List ℕ → Bool
answered e (some k) f σ = eqb e.number 18 && eqb e.line k
answered e none (some k) σ = eqb e.number 19 && eqb e.line k
answered e none none σ = eqb e.number 0 && same e.table σ

abbrev agrees : Example → Bool
agrees e =
    let head = ascii "case,start,call" ++ line_feed ∷ [] in
    answered e (misfit head 1 2 e.bytes) (unread head 1 2 e.bytes) (recovered head 1 2 e.bytes)

abbrev all_agree : List Example → Bool
all_agree [] = true
all_agree (e ∷ es) = agrees e && all_agree es

pub examples_agree : all_agree examples ≡ true
unfolding is_number in_range is_minute minute_of is_row_lem are_minutes rows_misfit rows_unread rows_table misfit
examples_agree = refl
