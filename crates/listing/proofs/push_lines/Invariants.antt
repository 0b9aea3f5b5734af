-- `listing::push_lines` meets its contract. The invariant: the lines of the scenarios below s are written. A table of
-- n * 2^k times has a row of n for each of 2^k scenarios, and as k is at most 4 there is room for all lines. Assumes
-- nothing.
use Rattle.network.specs.Build.{scenarios}
use Rattle.listing.specs.Listing.{line_over, time_texts}
use Rattle.listing.specs.Most.{most_line}
use Rattle.page.proofs.Pushing.{Pushing}
use Rattle.listing.proofs.push_lines.Given as goal

abbrev pub invariant-loop-s : goal.invariant-loop-s
invariant-loop-s g l =
    let network = l.strategy.formed.now.network in
    let times = time_texts network.events l.strategy.table.now in
    Pushing most_line (line_over network.signals network.events times) (scenarios network)
    l.initial.page l.s l.page
