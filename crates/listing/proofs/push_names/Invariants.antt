-- `listing::push_names` meets its contract. The invariant: the names of the events below u are written, each behind
-- its comma; a name has at most 8 bytes, so that there is room for all. Assumes nothing.
use mathlib.Core.List.{◌∷◌}
use Rattle.text.specs.Lines.{comma}
use Rattle.network.specs.Build.{name_of_lem}
use Rattle.page.proofs.Pushing.{Pushing}
use Rattle.listing.proofs.push_names.Given as goal

abbrev pub invariant-loop-u : goal.invariant-loop-u
invariant-loop-u g l = Pushing 9 (λ u. comma ∷ name_of_lem l.accepted.formed.network l.accepted.sheet.now u)
    l.accepted.formed.network.events l.initial.page l.u l.page
