-- `Ring::write` meets its contract: the page is the text, part behind part, and is handed out. Assumes nothing.
use Rattle.heaviest.proofs.Written.{ring_pushed}
use Rattle.heaviest.proofs.Ring.write.Goals as goal

pub returns : goal.returns
returns c =
    let ring = c.args.self.now in
    let whole =
    ring_pushed ring.events ring.horizon c.push_count.ensures c.push_events.ensures c.push_count-2.ensures
    c.push_rows.ensures in
    rw (whole.is, c.new-page.ensures) at c.hand_out.ensures
