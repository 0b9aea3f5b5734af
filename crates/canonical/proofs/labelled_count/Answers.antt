-- `canonical::labelled_count` meets its contract: the chain counts the labels that are listed. Assumes nothing.
use mathlib.Core.Path.{◌≡◌, ◌∙◌}
use mathlib.Core.Bool.{not}
use native.Mathlib.Omega.{arith}
use lib.ListN.{take}
use Rattle.std.proofs.Common.{rules, count_by}
use Rattle.line.specs.Labelling.{is_none_lem}
use Rattle.canonical.proofs.CaseLines.{labelled-counted}
use Rattle.canonical.proofs.labelled_count.Goals as goal

pub returns : goal.returns
returns c =
    let formed = c.args.formed.now in
    let Γ = formed.network in
    let counted : c.count.result ≡ count_by (λ ℓ. not (is_none_lem ℓ)) (take Γ.events Γ.labels) = search rules in
    counted ∙ labelled-counted Γ (omega (arith, formed.well_formed.events, formed.well_formed.arrays.labels))
