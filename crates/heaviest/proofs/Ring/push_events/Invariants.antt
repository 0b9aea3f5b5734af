-- `Ring::push_events` meets its contract. The invariant: behind the section's first line, the lines of the events below
-- u are written. Assumes nothing.
use mathlib.Core.List.{[]}
use Rattle.text.specs.Lines.{line}
use Rattle.page.proofs.Pushing.{Pushing}
use Rattle.heaviest.specs.RingText.{letter_name}
use Rattle.heaviest.proofs.Ring.push_events.Given as goal

abbrev pub invariant-loop-u : goal.invariant-loop-u
invariant-loop-u l = Pushing 2 (λ u. line (letter_name u) []) l.self.events l.initial.page l.u l.page
