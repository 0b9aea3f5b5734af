-- How many bytes each part of a listing has at most, by the limits of a sheet: a name has at most 8, a time 5
-- digits, and a blank is one dash.
use Rattle.std.specs.Prelude.{ℕ, ◌+◌, ◌*◌, ◌^◌}
use Rattle.network.specs.Limits as L

-- n names or times, each behind its comma, and the line feed
abbrev pub most_names : ℕ → ℕ
most_names n = 9 * n + 1

abbrev pub most_times : ℕ → ℕ
most_times n = 6 * n + 1

-- `case` and the names
abbrev pub most_header : ℕ
most_header = 4 + most_names L.events

-- the marks and the times of a scenario, and of all
abbrev pub most_line : ℕ
most_line = L.signals + most_times L.events

abbrev pub most_lines : ℕ
most_lines = most_line * 2 ^ L.signals

abbrev pub most_listing : ℕ
most_listing = most_header + most_lines
