-- `readback::head_of` meets its contract: the writer writes the header, and the front of the listing is compared with
-- that. Assumes nothing.
use Rattle.readback.proofs.Head.{begins-is}
use Rattle.readback.proofs.head_of.Goals as goal

pub returns : goal.returns
returns c =
    let written = rw c.new-page.ensures at c.push_header.ensures in
    rw (c.then_some.ensures, c.starts_with.ensures.value, c.text.ensures, c.len.ensures, written.is, begins-is)
