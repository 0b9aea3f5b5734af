-- A line feed that is found ends the line; where there is none, the line is missing. Assumes nothing.
use mathlib.Core.Path.{refl, sym, ◌∙◌}
use Rattle.text.specs.Lines.{line_feed}
use Rattle.text.proofs.Lines.{take_up_to}
use Rattle.refusal.specs.declared.Cause.TheVariants as C
use Rattle.line.proofs.Ends.{found-ends, nothing-ends}
use Rattle.line.proofs.Refusals.{exits-none}
use Rattle.line.proofs.field.line_of.Goals as goal

pub returns-in_err-end : goal.returns-in_err-end
returns-in_err-end c =
    let none = exits-none c.from_residual.result c.in_err-end.field-0.0 C.MissingLine c.find.result
    c.from_residual.ensures.1 c.in_err-end.ensures.value in
    rw none.1 (refl, nothing-ends c.args.rest.now (sym c.find.ensures ∙ none.0))

pub returns : goal.returns
returns c =
    let found = found-ends c.args.rest.now c.in_ok-end.end (sym c.find.ensures ∙ c.in_ok-end.ensures.ok_part) in
    (rw found.1 (take_up_to line_feed c.args.rest.now), found.0)
