-- Laws of the rows of a ring, by the event that a row leads from: the one from event u is row u - 1. Assumes nothing.
use mathlib.Core.Path.{◌≡◌}
use mathlib.Core.List.{List}
use Prim.Native.Nat.{ℕ, suc, ◌+◌, ◌-◌, ◌≤◌, ◌<◌}
use native.Mathlib.Omega.{arith}
use borrow.Author.Tests.{eq-eqb, ne_eqb}
use Rattle.page.proofs.Pushing.{Pushing}
use Rattle.heaviest.specs.RingText.{no_sooner_row, ring_row}

-- it leads to the next event, or from the last back to the first
pub row_on : (m u : ℕ) → 1 ≤ u → u < m → no_sooner_row u (u + 1) 0 ≡ ring_row m (u - 1)
row_on m u h l =
    let own : suc (u - 1) ≡ u = omega arith in
    let next : suc (suc (u - 1)) ≡ u + 1 = omega arith in
    rw (ne_eqb (suc (u - 1)) m (λ e. omega arith), next, own)

pub row_back : (m i : ℕ) → suc i ≡ m → no_sooner_row m 1 1 ≡ ring_row m i
row_back m i e = rw (eq-eqb (suc i) m e)

-- one row more is written where the loop has gone on
pub count_on : {most : ℕ} {f : ℕ → List ℕ} {total : ℕ} {before a : List ℕ} (u : ℕ) → 1 ≤ u
    → Pushing most f total before (u - 1 + 1) a → Pushing most f total before (u + 1 - 1) a
count_on u h p = let same : u - 1 + 1 ≡ u + 1 - 1 = omega arith in rw same at p
