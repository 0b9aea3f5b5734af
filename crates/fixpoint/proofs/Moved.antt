-- Lists moved on by rises, and how far one lies above another. Assumes nothing.
use mathlib.Core.Path.{◌≡◌, sym, ◌∙◌}
use mathlib.Core.List.{List}
use Prim.Native.Nat.{ℕ, ◌+◌, ◌-◌, ◌*◌, ◌≤◌, ◌<◌, min}
use native.Mathlib.Nat.{mul-le-mul_left, mul-le-mul_right, mul-add, add-mul, mul-zero}
use native.Mathlib.Omega.{arith}
use lib.ListN.{length, get_or}
use lib.Seq.{ext_get_or}
use Rattle.prelude.proofs.Bounded.{length-tabulate, get_d_tabulate}
use Rattle.fixpoint.specs.Near.{Over}
use Rattle.fixpoint.specs.Straight.{moved}
use Rattle.fixpoint.proofs.Order.{over_by}

module _ (t : List ℕ) (j : ℕ) (rise : ℕ → ℕ) where
  pub length_moved : length (moved t j rise) ≡ length t
  unfolding moved
  length_moved = length-tabulate (λ i. get_or t i 0 + j * rise i) (length t)

  pub moved_at : (i : ℕ) → i < length t → get_or (moved t j rise) i 0 ≡ get_or t i 0 + j * rise i
  unfolding moved
  moved_at i h = get_d_tabulate (λ i. get_or t i 0 + j * rise i) (length t) i 0 h

-- by equal rises
pub moved_ext : (t : List ℕ) (j : ℕ) (f g : ℕ → ℕ) → ((i : ℕ) → i < length t → f i ≡ g i) → moved t j f ≡ moved t j g
moved_ext t j f g h =
    ext_get_or 0 (moved t j f) (moved t j g) (length_moved t j f ∙ sym (length_moved t j g)) (λ i b.
    let b' : i < length t = omega (arith, length_moved t j f) in
    moved_at t j f i b' ∙ (rw (h i b') (sym (moved_at t j g i b'))))

-- by none
pub moved_still : (t : List ℕ) (j : ℕ) (f : ℕ → ℕ) → ((i : ℕ) → i < length t → f i ≡ 0) → moved t j f ≡ t
moved_still t j f h =
    ext_get_or 0 (moved t j f) t (length_moved t j f) (λ i b.
    let b' : i < length t = omega (arith, length_moved t j f) in
    let none : j * f i ≡ 0 = rw (h i b') (mul-zero j) in
    omega (arith, moved_at t j f i b'))

-- one moved list above another
pub over_moved : (c : ℕ) (t : List ℕ) (i j : ℕ) (f g : ℕ → ℕ) → ((k : ℕ) → i * f k ≤ j * g k + c)
    → Over c (moved t j g) (moved t i f)
over_moved c t i j f g h =
    over_by (length t) c (moved t j g) (moved t i f) (length_moved t i f)
    (λ k b. omega (arith, moved_at t i f k b, moved_at t j g k b, h k))

-- i moves of rise a, against j ≥ i moves of what a is more than l, and i of l
pub lead : (i j a l : ℕ) → i ≤ j → i * a ≤ j * (a - l) + i * l
lead i j a l h =
    let x : i * a ≤ i * ((a - l) + l) = mul-le-mul_left i (omega arith) in
    let y : i * (a - l) ≤ j * (a - l) = mul-le-mul_right (a - l) h in
    omega (arith, mul-add i (a - l) l)

-- i + r moves of the lesser of a and l, against i of a and the rest of l
pub lag : (i r a l : ℕ) → (i + r) * min a l ≤ i * a + r * l
lag i r a l =
    let x : i * min a l ≤ i * a = mul-le-mul_left i (omega arith) in
    let y : r * min a l ≤ r * l = mul-le-mul_left r (omega arith) in
    omega (arith, add-mul i r (min a l))
