-- `hearer` meets its contract: the iterator finds the case that the definition's search does. Assumes nothing.
use mathlib.Core.Path.{refl, sym, ◌∙◌}
use mathlib.Core.Bool.{Bool}
use Prim.Native.Nat.{ℕ}
use native.Mathlib.Omega.{arith}
use borrow.Author.Rules.{rules}
use borrow.Author.Tests.{tests}
use Rattle.std.proofs.lemmas.Iterator.{YieldsList-from_range}
use Rattle.std.proofs.lemmas.Iterator.Adapters.{option_map_id}
use Rattle.std.proofs.lemmas.Iterator.Search.{find_from_yields_List}
use Rattle.prelude.proofs.Finds.{find-range}
use Rattle.network.specs.Build.{scenarios}
use Rattle.dispatch.specs.Due.{has_heard_lem}
use Rattle.dispatch.specs.Said.{said_on}
use Rattle.dispatch.proofs.Moment.hearer.Goals as goal

pub returns : goal.returns
returns c =
    let here = c.args.self.now in
    let Γ = here.strategy.formed.now.network in
    let f : ℕ → Bool = has_heard_lem Γ here.strategy.table.now here.minute (said_on c.args.said.mask) in
    sym (option_map_id c.find.result)
    ∙ find_from_yields_List f _ _ c.find.result c.find.ensures.ran
    (YieldsList-from_range 0 c.scenario_count.result (scenarios Γ) refl (omega arith))
    (λ x b q h. search (rules, tests))
    ∙ find-range f (scenarios Γ)
