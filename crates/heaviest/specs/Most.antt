-- How many bytes the sheet that is written for a line has at most: the room that its writer has.
use Rattle.std.specs.Prelude.{ℕ, ◌+◌, ◌-◌, ◌*◌}
use Rattle.network.specs.Limits as L
use Rattle.layout.specs.Most.{most_count}

-- its events, each a letter and the line feed
abbrev pub most_names : ℕ
most_names = most_count 6 + 2 * L.events

-- a row's kind, two letters, number and label with the line feed
abbrev pub most_row : ℕ
most_row = 3 + 2 + 2 + 6 + 3

abbrev pub most_rows : ℕ
most_rows = most_count 5 + most_row * (L.events - 1)

-- the whole
abbrev pub most_text : ℕ
most_text = most_count 7 + most_names + most_count 7 + most_rows
