use native.Mathlib.Omega.{arith}
use Rattle.network.specs.Build.{observation, event_label}
use Rattle.line.proofs.Labelling.{small_of}
use Rattle.line.proofs.whole.all_include.Goals as goal

pub events_include-requires : goal.events_include-requires
events_include-requires c =
    let Γ = c.args.network.now in
    let read = c.requires.0 in
    let u = observation Γ c.args.p in
    (read, omega (arith, c.requires.1, read.signals), small_of Γ (event_label Γ u) read (read.lettered u))

pub rules_include-requires : goal.rules_include-requires
rules_include-requires c =
    let Γ = c.args.network.now in
    let read = c.requires.0 in
    let u = observation Γ c.args.p in
    (read, omega (arith, c.requires.1, read.signals), small_of Γ (event_label Γ u) read (read.lettered u))
