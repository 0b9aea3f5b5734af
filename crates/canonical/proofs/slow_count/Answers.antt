-- `canonical::slow_count` meets its contract: the chain counts the stated reactions that are listed. Assumes nothing.
use mathlib.Core.Path.{◌≡◌, ◌∙◌}
use mathlib.Core.Bool.{not}
use native.Mathlib.Omega.{arith}
use lib.Dec.{eqb}
use lib.ListN.{take}
use Rattle.std.proofs.Common.{rules, count_by}
use Rattle.network.specs.Strategy.{reaction_of_lem}
use Rattle.canonical.proofs.SlowLines.{slow_counted}
use Rattle.canonical.proofs.slow_count.Goals as goal

pub returns : goal.returns
returns c =
    let formed = c.args.formed.now in
    let Γ = formed.network in
    let counted : c.count.result
    ≡ count_by (λ x. not (eqb (reaction_of_lem x) 1)) (take Γ.signals Γ.reactions) = search rules in
    counted ∙ slow_counted Γ (omega (arith, formed.well_formed.signals, formed.well_formed.arrays.reactions))
