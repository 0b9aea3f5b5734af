-- What the kinds of former rules ask of two times. The difference equals the limit exactly where it is at most and at
-- least the limit; and a kind is kept where the kind that stands for it is and, if it is `fix`, the difference equals
-- the limit. Assumes nothing.
use mathlib.Core.Path.{◌≡◌, refl}
use mathlib.Core.Logic.{◌↔◌}
use mathlib.Core.Bool.{true}
use Prim.Native.Nat.{ℕ, suc, ◌+◌}
use native.Mathlib.Omega.{arith}
use borrow.Author.Tests.{le-leb, leb-true}
use lib.IntN.{ℤ, pos, negsuc}
use Rattle.prelude.proofs.Tests.{zero-is-one}
use Rattle.network.specs.Constraint.{at_most, at_least, admits}
use Rattle.conversion.specs.FormerSheet.{FormerKind, Today, Fix, held_kind}
use Rattle.conversion.specs.FormerTables.{Equals, FormerAdmits}
use Rattle.conversion.proofs.FormerRow.{is_fix_kind}

-- the difference equals the limit where it is at most and at least the limit
abbrev pub Balanced : ℕ → ℕ → ℤ → Type 0
Balanced a b w = (at_most a b w ≡ true) × (at_least a b w ≡ true)

pub equals_iff : (a b : ℕ) (w : ℤ) → Equals a b w ↔ Balanced a b w
equals_iff a b (pos w) = (
  λ e. (le-leb b (a + w) (omega arith), le-leb (a + w) b (omega arith)),
  λ p. omega (arith, leb-true b (a + w) p.0, leb-true (a + w) b p.1),
)
equals_iff a b (negsuc w) = (
  λ e. (le-leb (b + suc w) a (omega arith), le-leb a (b + suc w) (omega arith)),
  λ p. omega (arith, leb-true (b + suc w) a p.0, leb-true a (b + suc w) p.1),
)

pub kind-held : (k : FormerKind) (a b : ℕ) (w : ℤ) → FormerAdmits k a b w
    → (admits (held_kind k) a b w ≡ true) × (is_fix_kind k ≡ true → Equals a b w)
kind-held (Today k) a b w h = (h, λ q. zero-is-one cc)
kind-held Fix a b w e = (((equals_iff a b w).0 e).0, λ _. e)

pub kind_of_held : (k : FormerKind) (a b : ℕ) (w : ℤ) → admits (held_kind k) a b w ≡ true
    → (is_fix_kind k ≡ true → Equals a b w) → FormerAdmits k a b w
kind_of_held (Today k) a b w h e = h
kind_of_held Fix a b w h e = e refl
