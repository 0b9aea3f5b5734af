-- `canonical::push_label` meets its contract. The invariant: what the label asks of the signals below p is written.
-- Where the page has not grown, nothing was asked. Assumes nothing.
use Rattle.page.proofs.Pushing.{Pushing}
use Rattle.canonical.proofs.Literals.{literal_text_at}
use Rattle.canonical.proofs.push_label.Given as goal

abbrev pub invariant-loop-p : goal.invariant-loop-p
invariant-loop-p l =
    let Γ = l.formed.network in
    Pushing 2 (literal_text_at Γ l.label) Γ.signals l.initial.page l.p l.page
