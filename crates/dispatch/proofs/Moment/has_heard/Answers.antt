-- `has_heard` meets its contract: the iterator tests each signal as the definition does. Assumes nothing.
use mathlib.Core.Path.{refl, ◌∙◌}
use mathlib.Core.Bool.{Bool}
use Prim.Native.Nat.{ℕ}
use native.Mathlib.Omega.{arith}
use borrow.Author.Rules.{rules}
use borrow.Author.Tests.{tests}
use Rattle.std.proofs.lemmas.Iterator.{YieldsList-from_range}
use Rattle.std.proofs.lemmas.Iterator.Search.{all_from_yields_List}
use Rattle.prelude.proofs.Chains.{all-range}
use Rattle.dispatch.specs.Due.{as_heard}
use Rattle.dispatch.specs.Said.{said_on}
use Rattle.dispatch.proofs.Moment.has_heard.Goals as goal

pub returns : goal.returns
returns c =
    let here = c.args.self.now in
    let Γ = here.strategy.formed.now.network in
    let f : ℕ → Bool = as_heard Γ here.strategy.table.now here.minute (said_on c.args.said.mask) c.args.s in
    all_from_yields_List f _ _ c.all.result c.all.ensures.ran (YieldsList-from_range 0 Γ.signals Γ.signals refl
    (omega arith))
    (λ x b q h. search (rules, tests))
    ∙ all-range f Γ.signals
