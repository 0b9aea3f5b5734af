-- The answers that a function gives on the numbers below n, in the order of the numbers.
use Rattle.std.proofs.Math.Option.{Option, none, some}
use Rattle.std.specs.Prelude.{List, [], ◌∷◌, ℕ, zero, suc}

module _ {A : Type 0} where
  -- an answer, put before others
  abbrev pub ahead : Option A → List A → List A
  ahead none xs = xs
  ahead (some x) xs = x ∷ xs

  -- the answers among f i, f (i + 1), .. : n numbers are tried
  abbrev pub gather_from : ℕ → ℕ → (ℕ → Option A) → List A
  gather_from i zero f = []
  gather_from i (suc n) f = ahead (f i) (gather_from (suc i) n f)

  -- the answers among f 0, f 1, .. : n numbers are tried
  abbrev pub gather : ℕ → (ℕ → Option A) → List A
  gather n f = gather_from 0 n f
