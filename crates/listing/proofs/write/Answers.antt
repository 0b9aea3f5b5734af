-- `listing::write` meets its contract: the page holds the listing, header and lines, and that is handed out. Assumes
-- nothing.
use Rattle.listing.proofs.Listed.{listing_pushed}
use Rattle.listing.proofs.write.Goals as goal

pub returns : goal.returns
returns c =
    let whole = listing_pushed _ c.args.accepted.now.formed.network c.args.table.now
    (rw c.new-page.ensures at c.push_header.ensures) c.push_lines.ensures in
    rw whole.is at c.hand_out.ensures
