-- How many bytes each part of a sheet's text has at most, by the limits of a sheet: a name has at most 8, and a number
-- 5 digits.
use Rattle.std.specs.Prelude.{ℕ, ◌+◌, ◌*◌}
use Rattle.network.specs.Limits as L

-- a section's word of so many letters, a comma, its count and the line feed
abbrev pub most_count : ℕ → ℕ
most_count word = word + 7

abbrev pub most_events : ℕ
most_events = most_count 6 + 9 * L.events

-- a letter, a comma, a name and the line feed
abbrev pub most_signals : ℕ
most_signals = most_count 7 + 11 * L.signals

-- a letter of a label with its `!`
abbrev pub most_label : ℕ
most_label = 2 * L.signals

-- a kind, two names, a limit with its sign and a label, each behind its comma, and the line feed
abbrev pub most_rule : ℕ
most_rule = 3 + 9 + 9 + 7 + (1 + most_label) + 1

abbrev pub most_rules : ℕ
most_rules = most_count 5 + most_rule * L.rules

-- a letter, a comma, a number of minutes and the line feed
abbrev pub most_reaction : ℕ
most_reaction = 8

abbrev pub most_reactions : ℕ
most_reactions = most_count 9 + most_reaction * L.signals

-- a name, a comma, a label and the line feed
abbrev pub most_case : ℕ
most_case = 8 + (1 + most_label) + 1

abbrev pub most_cases : ℕ
most_cases = most_count 5 + most_case * L.events

abbrev pub most_form : ℕ
most_form = most_count 7 + most_events + most_signals + most_rules + most_reactions + most_cases
