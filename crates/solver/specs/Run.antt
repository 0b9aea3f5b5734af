-- A run with a budget, from the times that a table holds.
use Rattle.std.specs.Prelude.{◌≡◌, ℕ, List, ◌≢◌, ◌+◌, ◌-◌, ◌≤◌}
use Rattle.fixpoint.specs.Run.{End, Rests, Passes, Spent, Run, run_from}
use Rattle.network.specs.declared.Network.{Network}
use Rattle.rounds.specs.Propagate.{propagate}
use Rattle.rounds.specs.Cap.{cap}
use Rattle.rounds.specs.Rounds.{held}
use Rattle.leap.specs.Tables.{Advanced}
use Rattle.solver.specs.declared.End as declared
use Rattle.solver.specs.declared.End.TheVariants as variants
use Rattle.solver.specs.declared.Ended.{Ended}

abbrev pub told : End → declared.End
told Rests = variants.Rests
told Passes = variants.Passes
told Spent = variants.Spent

-- how the run ended and after how many rounds; and what it reached, where no limit is passed. Of the turns nothing is
-- said.
pub record RunIs (Γ : Network) (budget : ℕ) (entry exit : List ℕ) (r : Ended) : Type 0 where
  pub run : Run
  pub run_is : run ≡ run_from (propagate Γ) (cap Γ) 0 budget (held Γ entry)
  pub end_is : r.end ≡ told run.end
  pub rounds_are : r.rounds ≡ run.rounds
  pub reached : (run.end ≢ Passes) → held Γ exit ≡ run.reached

-- periods are counted from base' in place of base, which so many more rounds lead to; the rounds counted were `age`,
-- are age' now, and `made` were passed over
pub record Onward (Γ : Network) (base base' : List ℕ) (age age' made : ℕ) : Type 0 where
  pub order : age' ≤ age + made
  pub gone : Advanced Γ (age + made - age') base base'
