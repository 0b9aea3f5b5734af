-- `readback::row_at` meets its contract: the line ends at the first line feed, or is missing where there is none; what
-- stands before the line feed is tested. Assumes nothing.
use mathlib.Core.Path.{sym, ◌∙◌}
use Rattle.text.specs.Lines.{line_feed}
use Rattle.text.proofs.Lines.{find-is, take_up_to}
use Rattle.readback.proofs.Optional.{cond_none, cond_some}
use Rattle.readback.proofs.row_at.Goals as goal

pub returns-in_err-e : goal.returns-in_err-e
returns-in_err-e c =
    let missing = cond_none _ _ (sym (c.find.ensures ∙ find-is line_feed c.args.rest.now) ∙ c.in_err-e.was) in
    rw (c.from_residual.ensures, missing)

pub returns : goal.returns
returns c =
    let rest = c.args.rest.now in
    let ends = cond_some _ _ _ (sym (c.find.ensures ∙ find-is line_feed rest) ∙ c.in_ok-e.was) in
    rw (c.then_some.ensures, c.is_row.ensures, ← ends.1, ends.0, take_up_to line_feed rest)
