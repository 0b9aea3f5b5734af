-- `listing::push_times` meets its contract. The invariant: the times before this one are written, each behind its
-- comma. Assumes nothing.
use mathlib.Core.List.{◌∷◌}
use lib.ListN.{length, get_or}
use Rattle.text.specs.Lines.{comma}
use Rattle.page.proofs.Pushing.{Pushing}
use Rattle.listing.specs.Listing.{time_text}
use Rattle.listing.proofs.push_times.Given as goal

abbrev pub invariant-loop-time : goal.invariant-loop-time
invariant-loop-time g l = Pushing 6 (λ u. comma ∷ time_text (get_or l.row u 0)) (length l.row) l.initial.page
    l.time-index l.page
