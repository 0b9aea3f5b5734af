-- `due` meets its contract: the letters are tried first, and then the first case that has heard what is said. Assumes
-- nothing.
use mathlib.Core.Path.{◌≡◌, refl, sym, ◌∙◌, ap}
use mathlib.Core.Option.{Option as Search, none, some}
use Prim.Native.Nat.{ℕ}
use Rattle.std.specs.Prelude.{Result, Ok, Err}
use Rattle.std.specs.Option.{ok_or}
use Rattle.std.specs.Result.{IsErrAnd}
use Rattle.prelude.specs.Options.{option_of}
use Rattle.prelude.proofs.Tests.{zero-is-one}
use Rattle.dispatch.specs.declared.Unanswered.{Unanswered}
use Rattle.dispatch.specs.declared.Unanswered.TheVariants.{NeverHeard}
use Rattle.dispatch.proofs.Core.{misnamed-on, heard-on, never_on, hearer_lt}
use Rattle.dispatch.proofs.due.Goals as goal

pub returns-then-not-is_well_named : goal.returns-then-not-is_well_named
returns-then-not-is_well_named c =
    let a = c.args in
    misnamed-on a.strategy.now.formed.now.network a.strategy.now.table.now a.minute a.said.mask
    (sym c.is_well_named.ensures ∙ c.if-not-is_well_named.true)

-- what `ok_or` makes of the case found, and what `?` hands on
found : (o : Search ℕ) (s : ℕ) → ok_or (option_of o) NeverHeard ≡ Ok s → o ≡ some s
found none s e = zero-is-one cc
found (some a) s e = cc

nobody : (o : Search ℕ) (u : Unanswered) → ok_or (option_of o) NeverHeard ≡ Err u → (o ≡ none) × (u ≡ NeverHeard)
nobody none u e = (refl, cc)
nobody (some a) u e = zero-is-one cc

handed_on : (answer : Result ℕ Unanswered) (u : Unanswered) → IsErrAnd answer (λ x. x ≡ u) → answer ≡ Err u
handed_on (Ok a) u h = absurd h
handed_on (Err x) u h = ap (λ (y : Unanswered). Err y) h

pub returns-in_err-s : goal.returns-in_err-s
returns-in_err-s c =
    let a = c.args in
    let u = c.in_err-s.field-0.0 in
    let none = nobody _ u (rw c.hearer.ensures at (sym c.ok_or.ensures.value ∙ c.in_err-s.was)) in
    handed_on c.from_residual.result u c.from_residual.ensures.1
    ∙ rw none.1
    (never_on a.strategy.now.formed.now.network a.strategy.now.table.now a.minute a.said.mask
    (sym c.is_well_named.ensures ∙ c.if-not-is_well_named.false) none.0)

pub due_in-requires : goal.due_in-requires
due_in-requires c =
    let a = c.args in
    hearer_lt a.strategy.now.formed.now.network a.strategy.now.table.now a.minute a.said.mask c.in_ok-s.s
    (found _ _ (rw c.hearer.ensures at (sym c.ok_or.ensures.value ∙ c.in_ok-s.was)))

pub returns : goal.returns
returns c =
    let a = c.args in
    ap Ok c.due_in.ensures
    ∙ heard-on a.strategy.now.formed.now.network a.strategy.now.table.now a.minute a.said.mask
    (sym c.is_well_named.ensures ∙ c.if-not-is_well_named.false) c.in_ok-s.s
    (found _ _ (rw c.hearer.ensures at (sym c.ok_or.ensures.value ∙ c.in_ok-s.was)))
