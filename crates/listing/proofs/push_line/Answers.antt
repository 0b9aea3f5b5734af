-- `listing::push_line` meets its contract: the truths, and the times behind them. Assumes nothing.
use native.Mathlib.Omega.{arith}
use Rattle.page.proofs.Pushed.{pushed_then}
use Rattle.listing.proofs.Fields.{line-row}
use Rattle.listing.proofs.push_line.Goals as goal

pub returns : goal.returns
returns g c =
    rw (← line-row c.args.formed.now.network.signals c.args.s c.args.row.now)
    (pushed_then c.push_truths.ensures c.push_times.ensures (omega arith))
