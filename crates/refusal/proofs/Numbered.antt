-- No cause has the number 0, which stands for success. Assumes nothing.
use mathlib.Core.Path.{◌≡◌}
use native.Mathlib.Omega.{arith}
use Rattle.refusal.specs.Refusal.{number_of}
use Rattle.refusal.specs.declared.Cause.{Cause}

pub numbered : (c : Cause) → number_of c ≡ 0 → ⊥
numbered c e = grind arith
