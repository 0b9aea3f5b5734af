-- The digits are those that std's `Display` writes of the number, and ASCII, so that they are text. Assumes nothing.
use Rattle.std.proofs.Common.{◌≡◌, sym, ◌∙◌, arith}
use Rattle.std.proofs.Output.{has_written_of_eq}
use Rattle.std.proofs.lemmas.Fmt.{IsAscii-decimal}
use Rattle.std.proofs.lemmas.Str.{IsUtf8-from_ascii}
use Rattle.std.specs.Fmt.{decimal}
use Rattle.text.proofs.Displayed.{displayed}
use Rattle.text.proofs.digits.SpelledDisplay.fmt.Goals.{After-as_slice}
use Rattle.text.proofs.digits.SpelledDisplay.fmt.Given.{Over}
use Rattle.text.proofs.digits.SpelledDisplay.fmt.Goals as goal

spelled : (g : Over) (d : After-as_slice g) → d.as_slice.result.now ≡ decimal d.args.self.now.0
spelled g d = d.as_slice.ensures ∙ d.spell-digits.ensures.text ∙ sym (displayed d.args.self.now.0 (omega arith))

pub unreachable-requires : goal.unreachable-requires
unreachable-requires g c =
    let v = c.args.self.now.0 in
    let is = spelled g (goal.at.unreachable-requires g c).After-as_slice in
    c.in_default.ensures.cases.0 (rw is (IsUtf8-from_ascii (decimal v) (IsAscii-decimal v (omega arith))))

pub returns-clause-writes : goal.returns-clause-writes
returns-clause-writes g c plain ok =
    has_written_of_eq _ _ _ _ _ (c.in-Ok.ensures.cases.0 ∙ spelled g (goal.at.returns-clause-writes g c).After-as_slice)
    (c.write_str.ensures.writes plain ok)
