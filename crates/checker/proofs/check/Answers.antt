-- `check` meets its contract: the verdict has the first breach, if there is one. Assumes nothing.
use mathlib.Core.Path.{◌≡◌}
use Rattle.std.proofs.Math.Option.{Option as Answer, none, some}
use Rattle.std.specs.Prelude.{Option, MatchOption}
use Rattle.prelude.specs.Options.{option_of}
use Rattle.checker.specs.Verdict.{verdict, verdict_of, first_breach}
use Rattle.checker.specs.declared.Breach.{Breach}
use Rattle.checker.specs.declared.Verdict.{Verdict}
use Rattle.checker.specs.declared.Verdict.TheVariants as V
use Rattle.checker.proofs.check.Goals as goal

of_match : (o : Answer Breach) {r : Option Breach} {v : Verdict} → r ≡ option_of o
    → MatchOption r (v ≡ V.Pass) (λ b. v ≡ V.Breach b) → v ≡ verdict_of o
of_match none e m = rw e at m
of_match (some b) e m = rw e at m

pub returns : goal.returns
unfolding verdict
returns c =
    let strategy = c.args.strategy.now in
    of_match (first_breach strategy.formed.now.network strategy.table.now) c.first_breach.ensures c.map_or.ensures
