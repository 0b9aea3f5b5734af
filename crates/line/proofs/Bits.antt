-- The code's test of a label's part as bits. There are 16 sums of four weights, so the law is a test that is computed
-- for all of them. Assumes nothing.
use mathlib.Core.Path.{◌≡◌, refl}
use Prim.Native.Nat.{ℕ, ◌<◌}
use lib.Bits.{bit_and}
use lib.Dec.{eqb}
use Rattle.network.specs.Limits as L
use Rattle.network.proofs.Masks.{sixteen}
use Rattle.line.specs.Labelling.{is_part_lem}

pub part-bits : (m n : ℕ) → m < L.cases → n < L.cases → eqb (bit_and n m) m ≡ is_part_lem m n
part-bits = sixteen (λ m n. eqb (bit_and n m) m) is_part_lem refl
