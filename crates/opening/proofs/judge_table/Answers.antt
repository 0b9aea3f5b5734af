-- `opening::judge_table` meets its contract: the verdict is the defined one, or the call is refused with what was
-- handed in. Assumes nothing.
use Rattle.std.proofs.Common.{rules}
use Rattle.opening.proofs.Means.{judge_means}
use Rattle.opening.proofs.judge_table.Goals as goal

pub returns-in_err-accepted : goal.returns-in_err-accepted
returns-in_err-accepted c = judge_means _ _ _ (search rules)

pub returns : goal.returns
returns c = judge_means _ _ _ (search rules)
