-- `readback::minute_in` meets its contract: a dash is compared, and every other text is read as digits. Assumes
-- nothing.
use mathlib.Core.Path.{◌≡◌, sym, ◌∙◌}
use Rattle.prelude.specs.Bytes.{ascii}
use Rattle.prelude.proofs.Bytes.{equal_is}
use Rattle.readback.specs.Minute.{is_blank}
use Rattle.readback.proofs.Minutes.{minute-blank, minute_digits}
use Rattle.readback.proofs.minute_in.Goals.{After-eq}
use Rattle.readback.proofs.minute_in.Goals as goal

-- the comparison finds a dash
dash : (d : After-eq) → is_blank d.args.f.now ≡ d.eq.result
dash d = sym (rw d.as_slice.ensures at d.eq.ensures ∙ equal_is d.args.f.now (ascii "-"))

pub returns-then-eq : goal.returns-then-eq
returns-then-eq c = minute-blank _ (dash (goal.at.returns-then-eq c).After-eq ∙ c.if-eq.true)

pub returns : goal.returns
returns c = c.digits_in.ensures ∙ minute_digits _ (dash (goal.at.returns c).After-eq ∙ c.if-eq.false)
