-- Each byte is a bang or is defined. Assumes nothing.
use mathlib.Core.Bool.{Bool}
use mathlib.Core.Path.{sym, ◌∙◌}
use Prim.Native.Nat.{ℕ}
use borrow.Author.Rules.{rules}
use borrow.Author.Tests.{tests}
use Rattle.std.proofs.lemmas.Iterator.{YieldsList-from_slice}
use Rattle.std.proofs.lemmas.Iterator.Search.{all_from_yields_List}
use Rattle.names.specs.Scan.{is_met_lem}
use Rattle.names.proofs.Tokens.{all_defined-all}
use Rattle.names.proofs.label.all_defined.Goals as goal

pub returns : goal.returns
returns c =
    let Γ = c.args.defined.now.network.now in
    let t = c.args.t.now in
    let f : ℕ → Bool = is_met_lem Γ.signals Γ.letters in
    all_from_yields_List f _ _ c.all.result c.all.ensures.ran (YieldsList-from_slice t c.iter.ensures.rest)
    (λ x b q h. search (rules, tests))
    ∙ sym (all_defined-all Γ.signals Γ.letters t)
