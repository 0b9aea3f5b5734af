use Rattle.files.specs.Whole.{opened_remaining}
use Rattle.calls.specs.Table.{judge_text}
use Rattle.calls.specs.Printing.{PrintsVerdict}
use Rattle.calls.proofs.Printing.{printing}
use Rattle.report.proofs.Told.{of_whole, both_meant, nothing_printed, whatever, read_before}
use Rattle.report.proofs.judge.Goals as goal

pub returns-in_err-n-clause-text : goal.returns-in_err-n-clause-text
returns-in_err-n-clause-text g c =
    let failed = c.from_residual.ensures.0 in
    whatever (opened_remaining g.S.Read.remaining c.args.sheet_file.now)
    (λ s. whatever (opened_remaining g.L.Read.remaining c.args.listing_file.now)
    (λ p. nothing_printed _ _ failed (judge_text s p)))

pub returns-in_err-n-clause-means : goal.returns-in_err-n-clause-means
returns-in_err-n-clause-means g c =
    both_meant _ _ _ judge_text PrintsVerdict printing.judge (opened_remaining g.S.Read.remaining c.args.sheet_file.now)
    (opened_remaining g.L.Read.remaining c.args.listing_file.now) (returns-in_err-n-clause-text g c)

pub returns-clause-text : goal.returns-clause-text
returns-clause-text g c =
    of_whole (opened_remaining g.S.Read.remaining c.args.sheet_file.now) c.in_ok-n.n c.read_opened.new.buf
    c.in_ok-n.ensures.whole c.judge_listing.ensures.text

pub returns-clause-means : goal.returns-clause-means
returns-clause-means g c =
    of_whole (opened_remaining g.S.Read.remaining c.args.sheet_file.now) c.in_ok-n.n c.read_opened.new.buf
    c.in_ok-n.ensures.whole c.judge_listing.ensures.means

pub returns-clause-order : goal.returns-clause-order
returns-clause-order g c = read_before _ _ _ _ c.in_ok-n.ensures.rest c.judge_listing.ensures.order
