-- `opening::convert_sheet` meets its contract: the former sheet, then whether the rows that result fit, then what the
-- writer did. Assumes nothing.
use mathlib.Core.Path.{◌≡◌}
use native.Mathlib.Omega.{arith}
use Rattle.std.specs.Prelude.{Ok}
use Rattle.sheet.specs.Reading.{read}
use Rattle.conversion.specs.FormerRules.{read_as_max_lem}
use Rattle.conversion.specs.Converted.{resulting}
use Rattle.calls.proofs.Fit.{few-fit, many_do_not}
use Rattle.opening.proofs.Prologue.{handed_on}
use Rattle.opening.proofs.Leaves.{convert_refused, convert-many, convert-written}
use Rattle.opening.proofs.Means.{convert_means}
use Rattle.opening.proofs.convert_sheet.Goals as goal
use Rattle.opening.proofs.convert_sheet.Goals.{In_ok-former}

pub returns-in_err-former : goal.returns-in_err-former
returns-in_err-former c =
    convert_means _ _ _ _ (rw (handed_on c.from_residual.result _ c.from_residual.ensures.1)
    (convert_refused _ _ _ c.in_err-former.ensures))

-- what the sheet is read into, and how many rules result, are said of the sheet that was handed in
reads : (d : In_ok-former) → read (read_as_max_lem d.args.sheet.now) ≡ Ok d.in_ok-former.former.formed.network
reads d = rw d.in_ok-former.ensures at d.in_ok-former.former.accepted

counted : (d : In_ok-former)
    → d.in_ok-former.former.rules ≡ resulting d.args.sheet.now d.in_ok-former.former.formed.network
counted d = rw d.in_ok-former.ensures at d.in_ok-former.former.counted

pub returns-then-former-gt-RULES : goal.returns-then-former-gt-RULES
returns-then-former-gt-RULES c =
    let d = (goal.at.returns-then-former-gt-RULES c).In_ok-former in
    convert_means _ _ _ _ (rw (c.without_line.ensures)
    (convert-many _ _ _ (reads d) (many_do_not _ (omega (arith, counted d, c.if-former-gt-RULES.true)))))

pub returns : goal.returns
returns c =
    let d = (goal.at.returns c).In_ok-former in
    convert_means _ _ _ _ (rw (c.ok_or.ensures.value, c.without_line-2.ensures)
    (convert-written _ _ _ (reads d) (few-fit _ (omega (arith, counted d, c.if-former-gt-RULES.false))) _ _
    (rw c.in_ok-former.ensures at c.write.ensures)))
