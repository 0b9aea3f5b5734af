-- `listing::push_header` meets its contract: the word, and the names behind it. Assumes nothing.
use native.Mathlib.Omega.{arith}
use Rattle.prelude.specs.Bytes.{ascii}
use Rattle.page.proofs.Pushed.{pushed_then}
use Rattle.listing.proofs.Fields.{line-tabulate}
use Rattle.listing.proofs.push_header.Goals as goal

pub returns : goal.returns
returns g c =
    rw (← line-tabulate (ascii "case") _ _) (pushed_then c.push_all.ensures c.push_names.ensures (omega arith))
