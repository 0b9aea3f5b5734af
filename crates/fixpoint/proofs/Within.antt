-- What is within a cap, and how its room falls with each raise. Assumes nothing.
use mathlib.Core.Path.{◌≡◌, sym, ◌∙◌}
use mathlib.Core.Logic.{inl, inr}
use mathlib.Core.Bool.{true, false}
use mathlib.Core.List.{List}
use Prim.Native.Nat.{ℕ, ◌-◌, ◌≤◌, ◌<◌}
use native.Mathlib.Omega.{arith}
use borrow.Author.Tests.{leb-true, leb-false, le-leb}
use lib.Dec.{leb}
use lib.ListN.{length, get_or}
use Rattle.prelude.specs.Bounded.{all_below}
use Rattle.prelude.specs.Bytes.{same}
use Rattle.prelude.proofs.Tests.{either, clash}
use Rattle.prelude.proofs.Bounded.{true_of_all_below, all_below_true, all_below_false, sum_below_lt}
use Rattle.prelude.proofs.Bytes.{same_of_eq}
use Rattle.fixpoint.specs.Order.{Below}
use Rattle.fixpoint.specs.Run.{within, room}
use Rattle.fixpoint.proofs.Order.{below_antisymm, below_by}

pub within-at : (cap t : List ℕ) → within cap t ≡ true → (i : ℕ) → i < length cap → get_or t i 0 ≤ get_or cap i 0
within-at cap t e i h = leb-true _ _ (true_of_all_below (λ i. leb (get_or t i 0) (get_or cap i 0)) (length cap) e i h)

pub within_by : (cap t : List ℕ) → ((i : ℕ) → i < length cap → get_or t i 0 ≤ get_or cap i 0) → within cap t ≡ true
within_by cap t h = all_below_true (λ i. leb (get_or t i 0) (get_or cap i 0)) (length cap) (λ i l. le-leb _ _ (h i l))

-- what is below something within the cap is within it
pub within-below : (cap : List ℕ) {t u : List ℕ} → Below t u → within cap u ≡ true → within cap t ≡ true
within-below cap {t} {u} b e = within_by cap t (λ i h. omega (arith, b.at i, within-at cap u e i h))

-- where one list is above another and not the same, some entry is greater
pub rise-at : (t u : List ℕ) → length t ≡ length u → Below t u → same u t ≡ false
    → (i : ℕ) × (i < length t) × (get_or t i 0 < get_or u i 0)
rise-at t u l b e =
    elim (either (all_below (length t) (λ i. leb (get_or u i 0) (get_or t i 0)))) [
      | inl p ↦
          let u-below : Below u t = below_by (length t) u t (sym l)
          (λ i h. leb-true _ _ (true_of_all_below (λ i. leb (get_or u i 0) (get_or t i 0)) (length t) p i h)) in
          clash (same u t) (same_of_eq u t (below_antisymm (sym l) u-below b)) e
      | inr p ↦
          let w = all_below_false (λ i. leb (get_or u i 0) (get_or t i 0)) (length t) p in
          (w.0, w.1, leb-false _ _ w.2)
    ]

-- each raise within the cap takes room
pub room_falls : (cap t u : List ℕ) → length t ≡ length cap → length u ≡ length cap → Below t u → same u t ≡ false
    → within cap u ≡ true → room cap u < room cap t
room_falls cap t u lt lu b e w =
    let r = rise-at t u (lt ∙ sym lu) b e in
    let i-in : r.0 < length cap = omega (arith, r.1) in
    sum_below_lt (λ i. get_or cap i 0 - get_or u i 0) (λ i. get_or cap i 0 - get_or t i 0) (length cap) r.0
    (λ j h. omega (arith, b.at j))
    i-in
    (omega (arith, r.2, within-at cap u w r.0 i-in))
