-- The place that was found is below 4. Assumes nothing.
use mathlib.Core.Path.{sym, ◌∙◌}
use native.Mathlib.Omega.{arith}
use Rattle.prelude.proofs.Options.{option_of-some}
use Rattle.names.specs.Defined.{place_of}
use Rattle.names.proofs.Labels.{place_is}
use Rattle.names.proofs.label.weight_of.Goals as goal

pub map_or-requires : goal.map_or-requires
map_or-requires c =
    λ p e.
    let defined = c.args.defined.now in
    let Γ = defined.network.now in let letter = c.args.letter in
    let found = option_of-some (place_of Γ.signals Γ.letters letter) p (sym c.place_of.ensures ∙ e) in
    omega (arith, (place_is Γ.signals Γ.letters letter p found).below, defined.names.few_signals)
