-- `listing::push_truths` meets its contract. The invariant: the marks of the propositions below p are written. Assumes
-- nothing.
use mathlib.Core.List.{[], ◌∷◌}
use Prim.Native.Nat.{◌/◌, ◌^◌}
use Rattle.listing.specs.Line.{mark_of_lem}
use Rattle.page.proofs.Pushing.{Pushing}
use Rattle.listing.proofs.push_truths.Given as goal

abbrev pub invariant-loop-p : goal.invariant-loop-p
invariant-loop-p g l =
    Pushing 1 (λ p. mark_of_lem (l.s / 2 ^ p) ∷ []) l.signals l.initial.page l.p l.page
