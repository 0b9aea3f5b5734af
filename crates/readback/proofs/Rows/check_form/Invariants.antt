-- `readback::Rows::check_form` meets its contract: the first row that does not fit ends the pass, and behind the last
-- one nothing is to be left. The invariant, `Forming`: the rows below s fit, and that of s begins at `at`. Assumes
-- nothing.
use Rattle.readback.proofs.Passes.{Forming}
use Rattle.readback.proofs.Rows.check_form.Given as goal

abbrev pub invariant-loop-s : goal.invariant-loop-s
invariant-loop-s l =
    let network = l.self.formed.now.network in
    Forming l.self.printed.now l.self.first network.signals network.events l.s l.at
