-- Where no event has a label nothing is cleared, and each happens. Assumes nothing.
use borrow.Author.Rules.{rules}
use Rattle.rows.proofs.Framed.{all_happen}
use Rattle.rows.proofs.frame.Frame.clear_absent.Goals as goal

pub returns-then-not-self : goal.returns-then-not-self
returns-then-not-self c = record {
  sized = search rules;
  is = λ u _. rw (all_happen c.args.self.now c.if-not-self.true c.args.s u);
}
