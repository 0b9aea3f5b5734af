-- `readback::read` meets its contract: length, header and rows decide in this order whether the form is right, and
-- then the minutes are read. Assumes nothing.
use mathlib.Core.Path.{◌≡◌, sym, ◌∙◌}
use mathlib.Core.Bool.{true}
use Prim.Native.Nat.{◌≤◌}
use native.Mathlib.Omega.{arith}
use Rattle.std.proofs.lemmas.Result.{err_from_is_err_and}
use lib.ListN.{length}
use Rattle.listing.specs.Listing.{header}
use Rattle.prelude.proofs.Options.{then_some_none, then_some_some}
use Rattle.readback.specs.Form.{longest_read}
use Rattle.readback.specs.Rows.{header_fits}
use Rattle.readback.proofs.Optional.{ok_or_err, ok_or_ok}
use Rattle.readback.proofs.Head.{header-inside}
use Rattle.readback.proofs.Passes.{form-none}
use Rattle.readback.proofs.Answered.{read_long, read-other, read-misfit, read-times}
use Rattle.readback.proofs.read.Goals.{After-head_of, In_ok-first}
use Rattle.readback.proofs.read.Goals as goal

-- the listing is not too long
short : (d : After-head_of) → length d.args.printed.now ≤ longest_read
short d = omega (arith, d.if-printed-gt-LONGEST.false)

-- it begins with the header, which ends at this place
begins : (d : In_ok-first) → let head = header d.args.accepted.now.sheet.now d.args.accepted.now.formed.network in
    (header_fits head d.args.printed.now ≡ true) × (length head ≡ d.in_ok-first.first)
begins d =
    then_some_some _ _ _ (sym d.head_of.ensures ∙ ok_or_ok _ _ _ (sym d.ok_or.ensures.value ∙ d.in_ok-first.was))

pub returns-then-printed-gt-LONGEST : goal.returns-then-printed-gt-LONGEST
returns-then-printed-gt-LONGEST c = read_long _ _ _ _ _ c.if-printed-gt-LONGEST.true

inside : (d : In_ok-first) → d.in_ok-first.first ≤ length d.args.printed.now
inside d = let head = begins d in rw (← head.1) (header-inside _ _ head.0)

pub returns-in_err-first : goal.returns-in_err-first
returns-in_err-first c =
    let d = goal.at.returns-in_err-first c in
    let head = ok_or_err _ _ _ (sym c.ok_or.ensures.value ∙ c.in_err-first.was) in
    let p = err_from_is_err_and c.from_residual.result c.from_residual.ensures.1 in
    rw (p.1, p.2, head.1)
    (read-other _ _ _ _ _ (short d.After-head_of) (then_some_none _ _ (sym c.head_of.ensures ∙ head.0)))

pub invariant_of-rows : goal.invariant_of-rows
invariant_of-rows c =
    let d = goal.at.invariant_of-rows c in
    record { inside = (inside d.In_ok-first, short d.After-head_of) }

pub returns-in_err-check_form : goal.returns-in_err-check_form
returns-in_err-check_form c =
    let d = goal.at.returns-in_err-check_form c in
    let head = begins d.In_ok-first in
    let form = rw (← head.1) at c.check_form.ensures in
    let exit = c.from_residual-in_err-check_form in
    let p = err_from_is_err_and exit.result exit.ensures.1 in
    rw (p.1, p.2) (read-misfit _ _ _ _ _ (short d.After-head_of) head.0 _ (sym form ∙ c.in_err-check_form.was))

pub read-requires : goal.read-requires
read-requires c = form-none _ (sym c.check_form.ensures ∙ c.in_ok-check_form.was)

pub returns : goal.returns
returns c =
    let d = goal.at.returns c in
    let head = begins d.In_ok-first in
    let form = rw (← head.1) at c.check_form.ensures in
    read-times _ _ _ _ _ (short d.After-head_of) head.0 (sym form ∙ c.in_ok-check_form.was) _ _
    (rw (← head.1) at c.read.ensures)
