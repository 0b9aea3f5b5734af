-- What a list of bounds asks of a row: one bound more. Assumes nothing.
use mathlib.Core.Path.{◌≡◌, sym, ◌∙◌}
use mathlib.Core.Logic.{inl, inr}
use mathlib.Core.List.{List, [], ◌∷◌, ◌++◌}
use Prim.Native.Nat.{ℕ, ◌+◌, ◌<◌, max}
use native.Mathlib.Omega.{arith}
use borrow.Author.Tests.{eqb-true, eqb-false}
use lib.Dec.{eqb}
use lib.ListN.{length, get_or, set, length-set}
use lib.Seq.{get_or-set_same, get_or-set_other}
use Rattle.prelude.proofs.Tests.{either}
use Rattle.rows.specs.Rows.{Sixteen}
use Rattle.bounds.specs.declared.bound.Bound.{Bound}
use Rattle.bounds.specs.Listed.{asking, asks}

pub asks-append : (bs : List Bound) (b : Bound) (row : List ℕ) (u : ℕ)
    → asks (bs ++ b ∷ []) row u ≡ max (asks bs row u) (asking b row u)
asks-append [] b row u = omega arith
asks-append (x ∷ bs) b row u = omega (arith, asks-append bs b row u)

-- a row raised by one bound more
pub raised_next : (bs : List Bound) (b : Bound) (row o₀ o : List ℕ) (v : ℕ)
    → Sixteen o (λ u. max (get_or o₀ u 0) (asks bs row u))
    → v ≡ max (get_or o b.target 0) (get_or row b.source 0 + b.weight)
    → Sixteen (set o b.target v) (λ u. max (get_or o₀ u 0) (asks (bs ++ b ∷ []) row u))
raised_next bs b row o₀ o v h e =
    let d = b.target in
    let here : d < 16 = b.target_in in
    let size : d < length o = omega (arith, h.sized, here) in
    record {
      sized = length-set o d v ∙ h.sized;
      is =
          λ u m. rw (asks-append bs b row u) (elim (either (eqb d u)) [
            | inl p ↦ rw (p, ← eqb-true d u p) (omega (arith, get_or-set_same o d v 0 size, h.is d here))
            | inr q ↦ rw q (omega (arith, get_or-set_other o d u v 0 (λ z. eqb-false d u q (sym z)), h.is u m))
          ]);
    }
