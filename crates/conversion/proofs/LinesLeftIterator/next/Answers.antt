-- The line that is cut off, behind its line feed or at the end, is the first of those that are left. Assumes nothing.
use mathlib.Core.Path.{◌≡◌, sym, ◌∙◌}
use mathlib.Core.List.{◌∷◌}
use Prim.Native.Nat.{◌+◌}
use native.Mathlib.Numerals.{add-one}
use native.Mathlib.Omega.{arith}
use borrow.Author.Tests.{eqb-false}
use lib.ListN.{length}
use Rattle.std.proofs.lemmas.List.{take_min, drop_min}
use Rattle.text.specs.Lines.{line_feed, up_to}
use Rattle.text.proofs.Lines.{line_le}
use Rattle.conversion.specs.Rows.{lines_of}
use Rattle.conversion.proofs.Lines.{lines_of_first}
use Rattle.conversion.proofs.LinesLeftIterator.next.Goals.{After-split_at}
use Rattle.conversion.proofs.LinesLeftIterator.next.Goals as goal

pub overflow_add-feed : goal.overflow_add-feed
overflow_add-feed c =
    omega (arith, c.self.told, line_le c.self.inside.rest.now c.until-feed.result c.until-feed.ensures)

-- the line that is cut off is the first of those that are left
cut : (d : After-split_at) → d.args.self.now ≡ d.split_at.result.0.now ∷ lines_of d.split_at.result.1.now
cut d =
    let rest = d.self.inside.rest.now in
    let some = eqb-false (length rest) 0 (sym d.is_empty.ensures ∙ d.if-is_empty.false) in
    rw (
      d.split_at.ensures.front,
      d.split_at.ensures.back,
      d.min.ensures,
      d.until-feed.ensures,
      take_min (length (up_to line_feed rest) + 1) rest,
      drop_min (length (up_to line_feed rest) + 1) rest,
      add-one,
    )
    (sym d.self.view_is ∙ lines_of_first rest (omega (arith, some)))

pub returns-clause-steps : goal.returns-clause-steps
returns-clause-steps c = cut (goal.at.returns-clause-steps c).After-split_at

pub returns-clause-goes : goal.returns-clause-goes
returns-clause-goes c =
    let d = (goal.at.returns-clause-goes c).After-split_at in
    rw (cut d) (record {
      on = λ e. (tt, e, omega arith);
      keeps = tt;
      rests = λ e. tt;
    })
