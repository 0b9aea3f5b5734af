use Rattle.files.specs.Whole.{opened_remaining}
use Rattle.calls.specs.Table.{judge_text}
use Rattle.calls.specs.Printing.{PrintsVerdict}
use Rattle.calls.proofs.Printing.{printing}
use Rattle.report.proofs.Told.{listing_told, meant, nothing_printed, whatever}
use Rattle.report.proofs.judge_listing.Goals as goal

pub returns-in_err-k-clause-text : goal.returns-in_err-k-clause-text
returns-in_err-k-clause-text g c =
    λ whole alike. whatever (opened_remaining g.L.Read.remaining c.args.listing_file.now)
    (λ p. nothing_printed _ _ c.from_residual.ensures.0 (judge_text whole p))

pub returns-in_err-k-clause-means : goal.returns-in_err-k-clause-means
returns-in_err-k-clause-means g c =
    λ whole alike. meant _ _ _ (judge_text whole) (PrintsVerdict whole) (printing.judge whole)
    (opened_remaining g.L.Read.remaining c.args.listing_file.now) (returns-in_err-k-clause-text g c whole alike)

pub returns-clause-text : goal.returns-clause-text
returns-clause-text g c =
    λ whole alike. listing_told _ _ _ c.args.sheet.now whole alike
    (opened_remaining g.L.Read.remaining c.args.listing_file.now) c.in_ok-k.k c.read_opened.new.buf
    c.in_ok-k.ensures.whole c.print_judgement.ensures

pub returns-clause-means : goal.returns-clause-means
returns-clause-means g c =
    λ whole alike. meant _ _ _ (judge_text whole) (PrintsVerdict whole) (printing.judge whole)
    (opened_remaining g.L.Read.remaining c.args.listing_file.now) (returns-clause-text g c whole alike)
