-- `readback::digits_in` meets its contract: each answer of `read_number` says which minute the text is, or that it is
-- none in digits. Assumes nothing.
use mathlib.Core.Path.{sym, ◌∙◌, ap}
use native.Mathlib.Omega.{arith}
use Rattle.std.specs.Prelude.{Some}
use Rattle.readback.proofs.Minutes.{digits_ill, digits_minus, digits_beyond, digits_at}
use Rattle.readback.proofs.digits_in.Goals as goal

pub returns-in_err-v : goal.returns-in_err-v
returns-in_err-v c = rw c.from_residual.ensures (digits_ill _ (sym c.read_number.ensures ∙ c.in_err-v.was))

pub returns-in-Plus : goal.returns-in-Plus
returns-in-Plus c =
    digits_at _ _ (sym c.read_number.ensures ∙ c.in_ok-v.was ∙ ap Some c.in-Plus.is)
    (omega (arith, c.from.ensures, c.if-v-from.true))

pub returns-in_default : goal.returns-in_default
returns-in_default c =
    digits_beyond _ _ (sym c.read_number.ensures ∙ c.in_ok-v.was ∙ ap Some c.in-Plus.is)
    (omega (arith, c.from.ensures, c.if-v-from.false))

pub returns-in_default-2 : goal.returns-in_default-2
returns-in_default-2 c =
    digits_minus _ _ (sym c.read_number.ensures ∙ c.in_ok-v.was ∙ ap Some c.in_default.is)
