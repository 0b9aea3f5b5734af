-- The signals are those below their number. Assumes nothing.
use mathlib.Core.Path.{refl, ◌∙◌}
use native.Mathlib.Omega.{arith}
use borrow.Author.Rules.{rules}
use borrow.Author.Tests.{tests}
use Rattle.std.proofs.lemmas.Iterator.{YieldsList-from_range}
use Rattle.std.proofs.lemmas.Iterator.Search.{all_from_yields_List}
use Rattle.prelude.proofs.Chains.{all-range}
use Rattle.line.specs.Labelling.{all_include}
use Rattle.line.proofs.whole.are_complete.Goals as goal

pub returns : goal.returns
returns c =
    let Γ = c.args.network.now in
    all_from_yields_List (all_include Γ) _ _ c.all.result c.all.ensures.ran
    (YieldsList-from_range 0 Γ.signals Γ.signals refl (omega arith))
    (λ x b q h. search (rules, tests))
    ∙ all-range (all_include Γ) Γ.signals
