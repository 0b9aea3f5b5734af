-- The pointwise order is an order on lists of one length, and the least of them is all zeros. Assumes nothing.
use mathlib.Core.Path.{◌≡◌}
use mathlib.Core.Logic.{inl, inr}
use mathlib.Core.List.{List}
use Prim.Native.Nat.{ℕ, ◌+◌, ◌≤◌, ◌<◌}
use native.Mathlib.Nat.{le_trans, le_antisymm}
use native.Mathlib.Omega.{arith}
use lib.ListN.{length, get_or, replicate, length-replicate, get_or-replicate, get_or-eq_default}
use lib.Seq.{ext_get_or}
use Rattle.prelude.proofs.Tests.{lt_or_ge}
use Rattle.fixpoint.specs.Order.{Below}
use Rattle.fixpoint.specs.Near.{Over}

pub below-refl : (t : List ℕ) → Below t t
below-refl t = record { at = λ i. omega arith }

pub below_trans : {t u v : List ℕ} → Below t u → Below u v → Below t v
below_trans a b = record { at = λ i. le_trans (a.at i) (b.at i) }

pub below_antisymm : {t u : List ℕ} → length t ≡ length u → Below t u → Below u t → t ≡ u
below_antisymm {t} {u} l a b = ext_get_or 0 t u l (λ i _. le_antisymm (a.at i) (b.at i))

-- it is enough to look at the places that the lesser list has
pub over_by : (n c : ℕ) (u t : List ℕ) → length t ≡ n → ((i : ℕ) → i < n → get_or t i 0 ≤ get_or u i 0 + c) → Over c u t
over_by n c u t l h = record {
  at = λ i.
      elim (lt_or_ge i n) [ inl p ↦ h i p | inr p ↦ omega (arith, get_or-eq_default t 0 {n = i} (omega arith)) ];
}

pub below_by : (n : ℕ) (t u : List ℕ) → length t ≡ n → ((i : ℕ) → i < n → get_or t i 0 ≤ get_or u i 0) → Below t u
below_by n t u l h =
    let o = over_by n 0 u t l (λ i b. omega (arith, h i b)) in
    record { at = λ i. omega (arith, o.at i) }

pub zeros_below : (n : ℕ) (t : List ℕ) → Below (replicate n 0) t
zeros_below n t =
    below_by n (replicate n 0) t (length-replicate n 0) (λ i h. omega (arith, get_or-replicate {A = ℕ} n i 0 0 h))
