-- `waits` meets its contract: the iterator tests each proposition. Assumes nothing.
use mathlib.Core.Path.{refl, ◌∙◌}
use mathlib.Core.Bool.{Bool, ◌||◌, not}
use Prim.Native.Nat.{ℕ}
use native.Mathlib.Omega.{arith}
use borrow.Author.Rules.{rules}
use borrow.Author.Tests.{tests}
use lib.Dec.{leb}
use lib.ListN.{get_or}
use Rattle.std.proofs.lemmas.Iterator.{YieldsList-from_range}
use Rattle.std.proofs.lemmas.Iterator.Search.{all_from_yields_List}
use Rattle.network.specs.Happens.{mentions}
use Rattle.prelude.proofs.Chains.{all-range}
use Rattle.checker.proofs.known.Known.waits.Goals as goal

pub returns : goal.returns
returns c =
    let self = c.args.self.now in
    let k = self.strategy.formed.now.network.signals in
    let f : ℕ → Bool = λ p. not (mentions c.args.label p) || leb (get_or self.from p 0) c.args.time in
    all_from_yields_List f _ _ c.all.result c.all.ensures.ran (YieldsList-from_range 0 k k refl (omega arith))
    (λ x b q h. search (rules, tests))
    ∙ all-range f k
