-- `opening::read_sheet` meets its contract: the counts are those of the network that the sheet is read into. Assumes
-- nothing.
use Rattle.std.proofs.Common.{rules}
use Rattle.opening.proofs.Means.{read_means}
use Rattle.opening.proofs.read_sheet.Goals as goal

pub returns-in_err-accepted : goal.returns-in_err-accepted
returns-in_err-accepted c = read_means _ _ (search rules)

pub returns : goal.returns
returns c = read_means _ _ (search rules)
