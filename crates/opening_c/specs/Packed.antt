-- The answer of a call that has written minutes, packed for C, and the minutes as bytes in the lent table.
use Rattle.std.specs.Prelude.{List, ℕ, ◌*◌, ◌≤◌, ◌<◌, length, take, Ok, Err}
use Rattle.calls.specs.Values.{OrRefusal, done, turned_away}
use Rattle.calls.specs.Call.{Left}
use Rattle.calls.specs.Lent.{in_pairs}
use Rattle.calls.specs.Bench.{packed_count_lem}

-- as many minutes as were written stand in front of the array, and there is room for two bytes of each
abbrev pub HasRoom : OrRefusal ℕ → List ℕ → List ℕ → Type 0
HasRoom (Ok n) minutes b = (n ≤ length minutes) × (n * 2 ≤ length b) × (n < 65536)
HasRoom (Err r) minutes b = Unit {0}

abbrev pub packed_table_lem : OrRefusal ℕ → List ℕ → List ℕ → Left ℕ
packed_table_lem (Ok n) minutes b =
    record { answer = packed_count_lem (done n); memory = (in_pairs b).after (take n minutes) }
packed_table_lem (Err r) minutes b = record { answer = packed_count_lem (turned_away 0 r); memory = b }
