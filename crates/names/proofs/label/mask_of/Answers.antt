-- The two sums are below 2^k, since the letters are defined and distinct (Labels). Assumes nothing.
use mathlib.Core.Bool.{true, false}
use Rattle.names.specs.Names.{literals}
use Rattle.names.proofs.Labels.{sum_is}
use Rattle.names.proofs.label.mask_of.Goals as goal

pub weights_of-requires : goal.weights_of-requires
weights_of-requires c =
    let Γ = c.args.defined.now.network.now in
    (sum_is Γ.signals Γ.letters true (literals false c.args.t.now) c.args.defined.now.names.few_signals
    c.requires.0 c.requires.1).below

pub weights_of-requires-2 : goal.weights_of-requires-2
weights_of-requires-2 c =
    let Γ = c.args.defined.now.network.now in
    (sum_is Γ.signals Γ.letters false (literals false c.args.t.now) c.args.defined.now.names.few_signals
    c.requires.0 c.requires.1).below
