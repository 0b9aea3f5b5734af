-- `first_broken_in` meets its contract: the iterator finds the first constraint that does not hold, and its place is
-- below 256. Assumes nothing.
use mathlib.Core.Path.{refl, ◌∙◌}
use mathlib.Core.Bool.{Bool, not}
use Prim.Native.Nat.{ℕ}
use native.Mathlib.Omega.{arith}
use borrow.Author.Rules.{rules}
use borrow.Author.Tests.{tests}
use Rattle.std.proofs.lemmas.Iterator.{YieldsList-from_range}
use Rattle.std.proofs.lemmas.Iterator.Search.{find_from_yields_List}
use Rattle.prelude.proofs.Finds.{Failing, failing}
use Rattle.network.specs.Build.{constraint}
use Rattle.network.specs.declared.Network.{Network}
use Rattle.checker.specs.Verdict.{does_hold}
use Rattle.checker.specs.declared.Breach.TheVariants.{Rule}
use Rattle.checker.proofs.search.first_broken_in.Goals.{After-find}
use Rattle.checker.proofs.search.first_broken_in.Goals as goal

module _ (d : After-find) where
  abbrev Γ : Network
  Γ = d.args.strategy.now.formed.now.network

  abbrev test : ℕ → Bool
  test c = does_hold Γ d.args.strategy.now.table.now d.args.s (constraint Γ c)

  found : Failing test (Rule d.args.s) Γ.rules d.find.result
  found =
      failing test (Rule d.args.s) Γ.rules d.find.result
      (find_from_yields_List (λ k. not (test k)) _ _ d.find.result d.find.ensures.ran
      (YieldsList-from_range 0 Γ.rules Γ.rules refl (omega arith)) (λ x b q h. search (rules, tests)))

pub returns-in_err-c : goal.returns-in_err-c
returns-in_err-c c =
    let d = (goal.at.returns-in_err-c c).After-find in
    c.from_residual.ensures ∙ (found d).nothing c.in_err-c.was

pub overflow_cast-result-2 : goal.overflow_cast-result-2
overflow_cast-result-2 c =
    let d = (goal.at.overflow_cast-result-2 c).After-find in
    omega (arith, (found d).place_lt c.in_ok-c.c c.in_ok-c.was, d.args.strategy.now.formed.now.well_formed.rules)

pub returns : goal.returns
returns c =
    (found (goal.at.returns c).After-find).made c.in_ok-c.c c.in_ok-c.was
