-- `first_late` meets its contract: the iterator finds the first event that is not in place, and that is below 256.
-- Assumes nothing.
use mathlib.Core.Path.{refl, ◌∙◌}
use mathlib.Core.Bool.{Bool, not}
use mathlib.Core.List.{List}
use Prim.Native.Nat.{ℕ}
use native.Mathlib.Omega.{arith}
use borrow.Author.Rules.{rules}
use borrow.Author.Tests.{tests}
use Rattle.std.proofs.lemmas.Iterator.{YieldsList-from_range}
use Rattle.std.proofs.lemmas.Iterator.Search.{find_from_yields_List}
use Rattle.prelude.proofs.Finds.{Failing, failing}
use Rattle.network.specs.declared.Network.{Network}
use Rattle.checker.specs.Verdict.{is_on_time}
use Rattle.checker.specs.declared.Breach.TheVariants.{Late}
use Rattle.checker.proofs.known.Known.first_late.Goals.{After-find}
use Rattle.checker.proofs.known.Known.first_late.Goals as goal

module _ (d : After-find) where
  abbrev Γ : Network
  Γ = d.args.self.now.strategy.formed.now.network

  abbrev σ : List ℕ
  σ = d.args.self.now.strategy.table.now

  abbrev s : ℕ
  s = d.args.self.now.scenario

  abbrev test : ℕ → Bool
  test = is_on_time Γ σ s

  found : Failing test (Late s) Γ.events d.find.result
  found =
      failing test (Late s) Γ.events d.find.result
      (find_from_yields_List (λ k. not (test k)) _ _ d.find.result d.find.ensures.ran
      (YieldsList-from_range 0 Γ.events Γ.events refl (omega arith)) (λ x b q h. search (rules, tests)))

pub returns-in_err-event : goal.returns-in_err-event
returns-in_err-event c =
    let d = (goal.at.returns-in_err-event c).After-find in
    c.from_residual.ensures ∙ (found d).nothing c.in_err-event.was

pub overflow_cast-result-2 : goal.overflow_cast-result-2
overflow_cast-result-2 c =
    let d = (goal.at.overflow_cast-result-2 c).After-find in
    omega (
      arith,
      (found d).place_lt c.in_ok-event.event c.in_ok-event.was,
      d.args.self.now.strategy.formed.now.well_formed.events,
    )

pub returns : goal.returns
returns c =
    (found (goal.at.returns c).After-find).made c.in_ok-event.event c.in_ok-event.was
