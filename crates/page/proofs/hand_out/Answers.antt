-- `page::hand_out` meets its contract: the text's length decides whether it is copied. Assumes nothing.
use native.Mathlib.Omega.{arith}
use Rattle.page.proofs.HandedOut.{handed-nothing, handed_all}
use Rattle.page.proofs.hand_out.Goals as goal

pub returns-then-out-text : goal.returns-then-out-text
returns-then-out-text c = handed-nothing _ _ (omega arith)

pub returns : goal.returns
returns c = rw c.overwrite.ensures (handed_all _ _ (omega arith))
