-- A size within 10,080 is exact, so it is an i32 with either sign, both ends and zero included. Assumes nothing.
use mathlib.Core.Path.{◌≡◌, sym, ◌∙◌, ap}
use mathlib.Core.Bool.{true, false}
use Rattle.std.specs.Prelude.{Some}
use Rattle.text.specs.ReadNumber.{read_number_lem}
use Rattle.text.proofs.ReadAs.{number_plus, number_minus}
use Rattle.refusal.specs.declared.Cause.TheVariants as C
use Rattle.network.specs.Limits as L
use Rattle.line.proofs.Refusals.{exits-none}
use Rattle.line.proofs.Numbers.{limit_ill, limit-beyond, limit_plus, limit_minus, signed_plus, signed_minus}
use Rattle.line.proofs.field.limit_of.Goals.{In_ok-number}
use Rattle.line.proofs.field.limit_of.Goals as goal

-- what was read
read : (d : In_ok-number) → read_number_lem L.horizon d.args.f.now ≡ Some d.in_ok-number.number
read d = sym d.read_number.ensures ∙ d.in_ok-number.ensures.ok_part

pub returns-in_err-number : goal.returns-in_err-number
returns-in_err-number c =
    let none = exits-none c.from_residual.result c.in_err-number.field-0.0 C.IllFormedNumber c.read_number.result
    c.from_residual.ensures.1 c.in_err-number.ensures.value in
    none.1 ∙ sym (rw (limit_ill c.args.f.now (sym c.read_number.ensures ∙ none.0)))

pub returns-in-Plus : goal.returns-in-Plus
returns-in-Plus c =
    let f = c.args.f.now in
    let v = c.in-Plus.v in
    let small = rw c.from-most.ensures at c.if-v-most.true in
    let w = limit_plus f v
    (number_plus L.horizon f v (read (goal.at.returns-in-Plus c).In_ok-number ∙ ap Some c.in-Plus.is)) small in
    rw (signed_plus v small, w.0, w.1)

pub returns-in-Minus : goal.returns-in-Minus
returns-in-Minus c =
    let f = c.args.f.now in
    let v = c.in-Minus.v in
    let small = rw c.from-most.ensures at c.if-v-most-2.true in
    let w = limit_minus f v
    (number_minus L.horizon f v (read (goal.at.returns-in-Minus c).In_ok-number ∙ ap Some c.in-Minus.is)) small in
    rw (signed_minus v small, w.0, w.1)

pub returns-in_default : goal.returns-in_default
returns-in_default c =
    let f = c.args.f.now in
    let v = c.in-Plus.v in
    let large = rw c.from-most.ensures at c.if-v-most.false in
    sym (rw (limit-beyond f false v
    (number_plus L.horizon f v (read (goal.at.returns-in_default c).In_ok-number ∙ ap Some c.in-Plus.is)) large))

pub returns-in_default-2 : goal.returns-in_default-2
returns-in_default-2 c =
    let f = c.args.f.now in
    let v = c.in-Minus.v in
    let large = rw c.from-most.ensures at c.if-v-most-2.false in
    sym (rw (limit-beyond f true v
    (number_minus L.horizon f v (read (goal.at.returns-in_default-2 c).In_ok-number ∙ ap Some c.in-Minus.is)) large))
