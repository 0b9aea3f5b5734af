-- One label under which a constraint counts: its own and those of its events, so that the code tests one label.
use Rattle.std.specs.Int.Bits.{bit_or}
use Rattle.network.specs.Build.{event_label}
use Rattle.network.specs.declared.Label.{Label}
use Rattle.network.specs.declared.Constraint.{Constraint}
use Rattle.network.specs.declared.Network.{Network}

-- the letters of both labels
abbrev pub join : Label → Label → Label
join ℓ κ = record { positive = bit_or ℓ.positive κ.positive; negative = bit_or ℓ.negative κ.negative }

-- of a constraint's own label and those of its two events
abbrev pub joint_of : Label → Label → Label → Label
joint_of own from to = join own (join from to)

abbrev pub joint : Network → Constraint → Label
joint Γ c = joint_of c.label (event_label Γ c.from) (event_label Γ c.to)
