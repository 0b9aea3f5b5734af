use mathlib.Core.Path.{◌∙◌, ap}
use lib.ListN.{length}
use Rattle.std.specs.Prelude.{unwrap_or}
use Rattle.text.proofs.Lines.{until-is}
use Rattle.text.proofs.until.Goals as goal

pub returns : goal.returns
returns c =
    c.unwrap_or.ensures ∙ ap (λ o. unwrap_or o (length c.args.s.now)) c.find.ensures ∙ until-is c.args.d c.args.s.now
