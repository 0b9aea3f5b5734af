-- The limits of a sheet, and what follows of bounds, cases and cells; what a cell without its event holds. The code
-- has them as constants of `Network`. That both are the same is in the contracts: those of the functions that use a
-- constant name these.
use Rattle.std.specs.Prelude.{ℕ, ◌+◌, ◌*◌, ◌^◌}

-- "H from 0 to 10,080", and the size of a rule's limit
abbrev pub horizon : ℕ
horizon = 10080

-- "n from 1 to 16"
abbrev pub events : ℕ
events = 16

-- "k from 0 to 4"
abbrev pub signals : ℕ
signals = 4

-- "m from 0 to 64"
abbrev pub rules : ℕ
rules = 64

-- "minutes from 1 to 60", after which a signal is trusted; "A signal without a line keeps 1"
abbrev pub fastest : ℕ
fastest = 1

abbrev pub slowest : ℕ
slowest = 60

-- an event waits for as many signals as its label has letters
abbrev pub waits : ℕ
waits = events * signals

-- a rule sets one bound between the times of its events, and a wait another: so many may a case list
abbrev pub listed : ℕ
listed = rules + waits

-- "There are 2^k cases", and a table has "n × 2^k in all"
abbrev pub cases : ℕ
cases = 2 ^ signals

abbrev pub cells : ℕ
cells = events * cases

-- "A cell without its event holds 65,535" (02, point 6), which is no minute of any event
abbrev pub blank : ℕ
blank = 65535
