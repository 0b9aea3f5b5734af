-- A line's turn as the reader takes it: there is room for what the line holds, which is added; and with the last label
-- all labels are tested.
use Rattle.std.specs.Prelude.{Bool, cond, [], ◌<◌}
use Rattle.network.specs.Limits as L
use Rattle.network.specs.declared.Network.{Network}
use Rattle.line.specs.Tests.{Tests}
use Rattle.line.specs.Labelling.{Read, whole_tests}
use Rattle.line.specs.declared.entry.Entry.{Entry}
use Rattle.line.specs.declared.entry.Entry.TheVariants as E

-- there is room for what a line holds
abbrev pub Room : Entry → Network → Type 0
Room E.Event Γ = Γ.events < L.events
Room (E.Signal b u) Γ = Γ.signals < L.signals
Room (E.Rule c) Γ = Γ.rules < L.rules
Room (E.Reaction p m) Γ = p < L.signals
Room (E.Label u ℓ) Γ = u < L.events

-- with a label, all labels may be tested
abbrev pub Testable : Entry → Network → Type 0
Testable E.Event Δ = Unit {0}
Testable (E.Signal b u) Δ = Unit {0}
Testable (E.Rule c) Δ = Unit {0}
Testable (E.Reaction p m) Δ = Unit {0}
Testable (E.Label u ℓ) Δ = Read Δ

-- what is tested behind a line which holds this: the last label tests all
abbrev pub tests_behind : Entry → Bool → Network → Tests
tests_behind E.Event last Δ = []
tests_behind (E.Signal b u) last Δ = []
tests_behind (E.Rule c) last Δ = []
tests_behind (E.Reaction p m) last Δ = []
tests_behind (E.Label u ℓ) last Δ = cond last (whole_tests Δ) []
