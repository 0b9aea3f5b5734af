-- The invariant: the answer is that of the digits from b on, behind others of size v, which is capped. Assumes nothing.
use mathlib.Core.Path.{◌≡◌}
use Prim.Native.Nat.{◌+◌, ◌≤◌}
use lib.ListN.{drop}
use Rattle.text.specs.ReadNumber.{read_digits_lem}
use Rattle.text.proofs.ReadNumber.{digits_from}
use Rattle.text.proofs.read_digits.Given as goal

abbrev pub invariant-loop-b : goal.invariant-loop-b
invariant-loop-b l = (l.v ≤ l.most + 1) × (read_digits_lem l.most l.f ≡ digits_from l.most l.v (drop l.b-index l.f))
