-- `readback::is_mark` meets its contract: the writer writes the mark, and the text is compared with that. Assumes
-- nothing.
use mathlib.Core.Path.{◌∙◌}
use Rattle.prelude.proofs.Bytes.{equal_is}
use Rattle.listing.specs.Listing.{scenario_text}
use Rattle.readback.proofs.is_mark.Goals as goal

pub returns : goal.returns
returns c =
    let written = rw c.new-mark.ensures at c.push_truths.ensures in
    let same = rw (c.text.ensures, written.is) at c.eq.ensures in
    same ∙ equal_is c.args.f.now (scenario_text c.args.formed.now.network.signals c.args.s)
