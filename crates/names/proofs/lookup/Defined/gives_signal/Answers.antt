-- The events of the signals are the front of the observations. Assumes nothing.
use mathlib.Core.Path.{◌∙◌, ap}
use lib.Dec.{eqb}
use Rattle.std.specs.List.{list_any}
use Rattle.prelude.proofs.Positions.{any_in-front}
use Rattle.names.proofs.lookup.Defined.gives_signal.Goals as goal

pub returns : goal.returns
returns c =
    let Γ = c.args.self.now.network.now in let u = c.args.u in
    c.contains.ensures.value ∙ ap (list_any (λ o. eqb o u)) c.observations.ensures.0
    ∙ any_in-front (λ o. eqb o u) Γ.signals Γ.observations c.observations.ensures.1
