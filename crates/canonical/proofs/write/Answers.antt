-- `canonical::write` meets its contract: the page is the form, part behind part, and is handed out. Assumes nothing.
use Rattle.canonical.proofs.House.{form_pushed}
use Rattle.canonical.proofs.write.Goals as goal

pub returns : goal.returns
returns c =
    let accepted = c.args.accepted.now in
    let whole =
    form_pushed accepted.sheet.now accepted.formed.network
    c.push_count.ensures
    c.push_events.ensures
    c.push_signals.ensures
    c.push_rules.ensures
    c.push_reactions.ensures
    c.push_cases.ensures
    in
    rw (whole.is, c.new-page.ensures) at c.hand_out.ensures
