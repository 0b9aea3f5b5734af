-- The size is exact up to hi, so the two tests decide the range. Assumes nothing.
use mathlib.Core.Path.{◌≡◌, sym, ◌∙◌, ap}
use Rattle.std.specs.Prelude.{Some}
use Rattle.text.specs.ReadNumber.{read_number_lem}
use Rattle.refusal.specs.declared.Cause.TheVariants as C
use Rattle.line.proofs.Refusals.{exits-none}
use Rattle.line.proofs.Numbers.{count_ill, count_minus, count_low, count-high, count_in}
use Rattle.line.proofs.field.count_of.Goals.{In_ok-number}
use Rattle.line.proofs.field.count_of.Goals as goal

-- what was read
read : (d : In_ok-number) → read_number_lem d.args.hi d.args.f.now ≡ Some d.in_ok-number.number
read d = sym d.read_number.ensures ∙ d.in_ok-number.ensures.ok_part

pub returns-in_err-number : goal.returns-in_err-number
returns-in_err-number c =
    let args = c.args in
    let none = exits-none c.from_residual.result c.in_err-number.field-0.0 C.IllFormedNumber c.read_number.result
    c.from_residual.ensures.1 c.in_err-number.ensures.value in
    none.1 ∙ sym (rw (count_ill args.lo args.hi args.f.now (sym c.read_number.ensures ∙ none.0)))

pub returns-in-Plus : goal.returns-in-Plus
returns-in-Plus c =
    let args = c.args in
    let w = count_in args.lo args.hi args.f.now c.in-Plus.v
    (read (goal.at.returns-in-Plus c).In_ok-number ∙ ap Some c.in-Plus.is)
    c.if-lo-v.true (rw c.from.ensures at c.if-v-from.true) in
    sym (rw (w.0, w.1))

pub returns-in_default : goal.returns-in_default
returns-in_default c =
    let args = c.args in
    sym (rw (count-high args.lo args.hi args.f.now c.in-Plus.v
    (read (goal.at.returns-in_default c).In_ok-number ∙ ap Some c.in-Plus.is)
    (rw c.from.ensures at c.if-v-from.false)))

pub returns-in_default-2 : goal.returns-in_default-2
returns-in_default-2 c =
    let args = c.args in
    sym (rw (count_low args.lo args.hi args.f.now c.in-Plus.v
    (read (goal.at.returns-in_default-2 c).In_ok-number ∙ ap Some c.in-Plus.is)
    c.if-lo-v.false))

pub returns-in_default-3 : goal.returns-in_default-3
returns-in_default-3 c =
    let args = c.args in
    sym (rw (count_minus args.lo args.hi args.f.now c.in_default.field-0
    (read (goal.at.returns-in_default-3 c).In_ok-number ∙ ap Some c.in_default.is)))
