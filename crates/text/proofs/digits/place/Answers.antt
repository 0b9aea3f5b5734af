-- A digit is put behind those above, unless it is a zero and there are none. Assumes nothing.
use native.Mathlib.Omega.{arith}
use Rattle.text.proofs.Counting.{place_none, place_one}
use Rattle.text.proofs.digits.place.Goals as goal
use Rattle.text.proofs.digits.place.Goals.{then-weighed-ne0-via-then-weighed-ne0}
use Rattle.text.proofs.digits.place.Goals.{then-weighed-ne0-via-else-weighed-ne0+then-len-ne0}

pub returns-then-weighed-ne0 : goal.returns-then-weighed-ne0
returns-then-weighed-ne0 c =
    rw c.push.ensures
    (place_one _ _ _ _ c.requires.0 c.count_off-weighed.ensures
    (elim c.then-weighed-ne0.branch [
      | then-weighed-ne0-via-then-weighed-ne0 w ↦ λ z n. w.if-weighed-ne0.true z
      | then-weighed-ne0-via-else-weighed-ne0+then-len-ne0 w ↦ λ z n.
          w.if-len-ne0.true (omega (arith, n))
    ]))

pub returns-else-len-ne0 : goal.returns-else-len-ne0
returns-else-len-ne0 c =
    place_none _ _ _ _ c.requires.0 c.count_off-weighed.ensures c.if-weighed-ne0.false
    (omega (arith, c.if-len-ne0.false, c.len.ensures))
