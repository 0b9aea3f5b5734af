-- How a round goes on, row by row: the rows that are stored, and two rows that have, cell by cell, the steepest climb
-- and the latest time over them. Assumes nothing.
use mathlib.Core.Path.{◌≡◌, refl, ◌∙◌}
use mathlib.Core.Logic.{inl, inr}
use mathlib.Core.List.{List}
use Prim.Native.Nat.{ℕ, ◌+◌, ◌-◌, ◌*◌, ◌≤◌, ◌<◌, max}
use native.Mathlib.Numerals.{add-one}
use native.Mathlib.Omega.{arith}
use lib.ListN.{length, get_or, replicate, get_or-replicate}
use Rattle.prelude.specs.Bounded.{max_below}
use Rattle.prelude.proofs.Tests.{eq_or_ne}
use Rattle.prelude.proofs.Bounded.{le_max_below, max_below_le}
use Rattle.rows.specs.Rows.{Few, Sixteen, Wrote}

-- the greatest of a row; shut, since sixteen maxima written out are too many for `omega`
unfoldable pub greatest : List ℕ → ℕ
greatest xs = max_below 16 (λ u. get_or xs u 0)

-- the first s rows are stored: t before the round, new after it, made what each cell is to be
pub record Rounding (made : ℕ → ℕ → ℕ) (c : ℕ) (t new climb highest : List ℕ) (s : ℕ) : Type 0 where
  pub rows : s ≤ c
  pub sized : length new ≡ 256
  pub done : (r u : ℕ) → r < s → u < 16 → get_or new (r * 16 + u) 0 ≡ made r u
  pub climb_is : Sixteen climb (λ u. max_below s (λ r. made r u - get_or t (r * 16 + u) 0))
  pub highest_is : Sixteen highest (λ u. max_below s (λ r. made r u))

module _ (made : ℕ → ℕ → ℕ) (c : ℕ) (t : List ℕ) where
  zeros : Sixteen (replicate 16 0) (λ u. 0)
  zeros = record { sized = refl; is = λ u l. get_or-replicate {A = ℕ} 16 u 0 0 l }

  pub rounding_none : (new : List ℕ) → length new ≡ 256 → Rounding made c t new (replicate 16 0) (replicate 16 0) 0
  rounding_none new l = record {
    rows = omega arith;
    sized = l;
    done = λ r u h. absurd (omega arith);
    climb_is = zeros;
    highest_is = zeros;
  }

  pub rounding_next : {new new' climb climb' highest highest' : List ℕ} {s : ℕ}
      {row raised : List ℕ} → Rounding made c t new climb highest s → s < c
      → Sixteen row (λ u. get_or t (s * 16 + u) 0) → Sixteen raised (made s)
      → Wrote new new' (s * 16) 16 (λ u. get_or raised u 0)
      → Sixteen climb' (λ u. max (get_or climb u 0) (get_or raised u 0 - get_or row u 0))
      → Sixteen highest' (λ u. max (get_or highest u 0) (get_or raised u 0))
      → Rounding made c t new' climb' highest' (s + 1)
  rounding_next {s = s} h l before after wrote climb highest = record {
    rows = omega arith;
    sized = wrote.sized ∙ h.sized;
    done =
        λ r u k m. elim (eq_or_ne r s) [
          | inl q ↦ rw q (wrote.here u m ∙ after.is u m)
          | inr q ↦ wrote.other (r * 16 + u) (inl (omega arith)) ∙ h.done r u (omega arith) m
        ];
    climb_is = one_more (λ r u. made r u - get_or t (r * 16 + u) 0) (record {
      sized = climb.sized;
      is = λ u l. omega (arith, climb.is u l, before.is u l, after.is u l);
    }) h.climb_is;
    highest_is = one_more made (record {
      sized = highest.sized;
      is = λ u l. omega (arith, highest.is u l, after.is u l);
    }) h.highest_is;
  } where
    one_more : (f : ℕ → ℕ → ℕ) {xs xs' : List ℕ}
        → Sixteen xs' (λ u. max (get_or xs u 0) (f s u)) → Sixteen xs (λ u. max_below s (λ r. f r u))
        → Sixteen xs' (λ u. max_below (s + 1) (λ r. f r u))
    one_more f p q = record { sized = p.sized; is = λ u l. rw add-one (omega (arith, p.is u l, q.is u l)) }

-- a row that has the greatest of each cell over c rows, and its greatest
module _ (c : ℕ) (f : ℕ → ℕ → ℕ) {xs : List ℕ} (R : Sixteen xs (λ u. max_below c (λ s. f s u))) where
  pub le_greatest : (s u : ℕ) → s < c → u < 16 → f s u ≤ greatest xs
  unfolding greatest
  le_greatest s u h l = omega (
    arith,
    R.is u l,
    le_max_below (λ r. f r u) c s h,
    le_max_below (λ v. get_or xs v 0) 16 u
        l,
  )

  module _ (m : ℕ) (few : (s u : ℕ) → s < c → u < 16 → f s u ≤ m) where
    row-at-most : Few m xs
    row-at-most u l = rw (R.is u l) (max_below_le (λ s. f s u) c m (λ s h. few s u h l))

    pub greatest_le : greatest xs ≤ m
    unfolding greatest
    greatest_le = max_below_le (λ u. get_or xs u 0) 16 m row-at-most
