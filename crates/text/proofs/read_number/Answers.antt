-- `-0` is no number; of any other field the sign says how what `read_natural` answers is taken. Assumes nothing.
use mathlib.Core.Path.{sym, ◌∙◌, ap}
use Rattle.std.specs.Option.{option_map}
use Rattle.prelude.proofs.Options.{mapped}
use Rattle.text.specs.ReadNumber.{read_natural_lem}
use Rattle.text.specs.declared.Number.TheVariants.{Plus, Minus}
use Rattle.text.proofs.Lines.{take-drop}
use Rattle.text.proofs.ReadNumber.{minus_zero, number_plus, number_minus}
use Rattle.text.proofs.read_number.Goals as goal

pub returns-then-is_minus_zero : goal.returns-then-is_minus_zero
returns-then-is_minus_zero c =
    sym (minus_zero c.args.most c.args.f.now (sym c.is_minus_zero.ensures ∙ c.if-is_minus_zero.true))

pub returns-then-is_negative : goal.returns-then-is_negative
returns-then-is_negative c =
    let most = c.args.most in let f = c.args.f.now in
    mapped (λ v. Minus v) c.read_natural.result c.map.result c.map.ensures.cases
    ∙ ap (option_map (λ v. Minus v)) (c.read_natural.ensures ∙ ap (read_natural_lem most) (take-drop f 1))
    ∙ sym (number_minus most f (sym c.is_minus_zero.ensures ∙ c.if-is_minus_zero.false)
    (sym c.is_negative.ensures ∙ c.if-is_negative.true))

pub returns : goal.returns
returns c =
    let most = c.args.most in let f = c.args.f.now in
    mapped (λ v. Plus v) c.read_natural-2.result c.map-2.result c.map-2.ensures.cases
    ∙ ap (option_map (λ v. Plus v)) c.read_natural-2.ensures
    ∙ sym (number_plus most f (sym c.is_minus_zero.ensures ∙ c.if-is_minus_zero.false)
    (sym c.is_negative.ensures ∙ c.if-is_negative.false))
