use Rattle.calls.specs.Table.{heaviest_text}
use Rattle.calls.specs.Printing.{PrintsRing}
use Rattle.calls.proofs.FirstBytes.{heaviest_first}
use Rattle.calls.proofs.Printing.{printing}
use Rattle.report.proofs.Told.{told, nothing_printed, whatever, meant}
use Rattle.report.proofs.ring.Goals as goal

pub returns-in_err-n-clause-text : goal.returns-in_err-n-clause-text
returns-in_err-n-clause-text g c =
    whatever (g.R.Read.remaining c.args.input.now)
    (λ s. nothing_printed _ _ c.from_residual.ensures.0 (heaviest_text s))

pub returns-in_err-n-clause-means : goal.returns-in_err-n-clause-means
returns-in_err-n-clause-means g c =
    meant _ _ _ heaviest_text PrintsRing printing.ring (g.R.Read.remaining c.args.input.now)
    (returns-in_err-n-clause-text g c)

pub returns-clause-text : goal.returns-clause-text
returns-clause-text g c =
    told _ _ _ heaviest_text heaviest_first (g.R.Read.remaining c.args.input.now) c.in_ok-n.n c.read_full.new.buf
    c.in_ok-n.ensures.whole c.print_ring.ensures

pub returns-clause-means : goal.returns-clause-means
returns-clause-means g c =
    meant _ _ _ heaviest_text PrintsRing printing.ring (g.R.Read.remaining c.args.input.now)
    (returns-clause-text g c)
