-- Greatest values of functions that agree, and of one that is zero. Assumes nothing.
use mathlib.Core.Path.{◌≡◌, refl}
use Prim.Native.Nat.{ℕ, zero, suc, ◌<◌}
use native.Mathlib.Omega.{arith}
use Rattle.prelude.specs.Bounded.{max_below}
use Rattle.prelude.proofs.Bounded.{max_below_le}

pub max_below_ext : (f g : ℕ → ℕ) (n : ℕ) → ((k : ℕ) → k < n → f k ≡ g k) → max_below n f ≡ max_below n g
max_below_ext f g zero h = refl
max_below_ext f g (suc n) h = omega (arith, h n (omega arith), max_below_ext f g n (λ k l. h k (omega arith)))

pub max_below-zero : (n : ℕ) (f : ℕ → ℕ) → ((k : ℕ) → k < n → f k ≡ 0) → max_below n f ≡ 0
max_below-zero n f h = omega (arith, max_below_le f n 0 (λ k l. omega (arith, h k l)))
