-- Laws of the pass that finds the ends of n fields. At i, with k commas behind it, the pass has the ends of the fields
-- below k, and the ends from k on are those of the fields of `drop i l`, i further on. Assumes nothing.
use mathlib.Core.Path.{◌≡◌, refl, sym, ◌∙◌, ap}
use mathlib.Core.Logic.{inl, inr}
use mathlib.Core.List.{List, [], ◌∷◌}
use Prim.Native.Nat.{ℕ, zero, suc, ◌+◌, ◌-◌, ◌≤◌, ◌<◌}
use native.Mathlib.Nat.{add-zero, zero-add}
use native.Mathlib.Omega.{arith}
use lib.ListN.{length, get_or, take, drop, set, length-set}
use lib.Seq.{get_or-set_same, get_or-set_other}
use Rattle.prelude.proofs.Tests.{eq_or_ne}
use Rattle.text.specs.Lines.{comma, fields}
use Rattle.text.specs.Cuts.{end_of, start_of, EndsAre, FieldIs}
use Rattle.text.proofs.Lines.{drop_here, drop-end}
use Rattle.text.proofs.Fields.{fields-comma, fields_byte, length-into_first, end_of_into_first}
use Rattle.text.proofs.Fields.{1-le-fields, end_of_is, end_of_le, field-part}

-- the pass over l has come to i, with k commas behind it
pub record Splitting (n : ℕ) (l ends : List ℕ) (k i : ℕ) : Type 0 where
  pub few : k ≤ i
  pub room : k ≤ n
  pub sized : length ends ≡ n
  pub counted : length (fields l) ≡ k + length (fields (drop i l))
  pub behind : (j : ℕ) → j < k → get_or ends j 0 ≡ end_of j (fields l)
  pub ahead : (j : ℕ) → end_of (k + j) (fields l) ≡ i + end_of j (fields (drop i l))

pub splitting_start : (n : ℕ) (l ends : List ℕ) → length ends ≡ n → Splitting n l ends 0 0
splitting_start n l ends h =
    record {
      few = omega arith;
      room = omega arith;
      sized = h;
      counted = omega arith;
      behind = λ j a. absurd (omega arith);
      ahead = λ j. rw zero-add (omega arith);
    }

module _ {n : ℕ} {l ends : List ℕ} {k i : ℕ} (here : Splitting n l ends k i) where
  next : end_of k (fields l) ≡ i + end_of 0 (fields (drop i l))
  next = rw add-zero at (here.ahead 0)

  -- the ends with that of field k, where i is its end
  ended : k < n → end_of k (fields l) ≡ i → (j : ℕ) → j < k + 1 → get_or (set ends k i) j 0 ≡ end_of j (fields l)
  ended h e j a =
      elim (eq_or_ne j k) [
        | inl q ↦ rw q (get_or-set_same ends k i 0 (omega (arith, here.sized)) ∙ sym e)
        | inr m ↦ get_or-set_other ends k j i 0 m ∙ here.behind j (omega arith)
      ]

  pub splitting_byte : i < length l → (get_or l i 0 ≡ comma → ⊥) → Splitting n l ends k (i + 1)
  splitting_byte h m =
      let e = ap fields (drop_here l i h) ∙ fields_byte (get_or l i 0) (drop (i + 1) l) m in
      let more = 1-le-fields (drop (i + 1) l) in
      record {
        few = omega (arith, here.few);
        room = here.room;
        sized = here.sized;
        counted = here.counted ∙ rw (e, length-into_first);
        behind = here.behind;
        ahead = λ j. here.ahead j ∙ rw (e, end_of_into_first) (omega arith);
      }

  at_comma : i < length l → get_or l i 0 ≡ comma
      → fields (drop i l) ≡ [] ∷ fields (drop (i + 1) l)
  at_comma h q = ap fields (drop_here l i h) ∙ fields-comma (get_or l i 0) (drop (i + 1) l) q

  pub splitting_comma : i < length l → get_or l i 0 ≡ comma → k < n → Splitting n l (set ends k i) (k + 1) (i + 1)
  splitting_comma h q r =
      let e = at_comma h q in
      record {
        few = omega (arith, here.few);
        room = omega arith;
        sized = length-set ends k i ∙ here.sized;
        counted = here.counted ∙ rw e (omega arith);
        behind = ended r (next ∙ rw e (omega arith));
        ahead = λ j.
            let p : k + 1 + j ≡ k + suc j = omega arith in
            rw p (here.ahead (suc j) ∙ rw e (omega arith));
      }

  -- behind n fields another comma begins one too many
  pub too_many : i < length l → get_or l i 0 ≡ comma → k ≡ n → length (fields l) ≡ n → ⊥
  too_many h q r e = omega (arith, here.counted, ap length (at_comma h q), 1-le-fields (drop (i + 1) l))

  -- at the end field k is the last
  pub count_is : length l ≤ i → length (fields l) ≡ k + 1
  count_is h = here.counted ∙ rw (ap fields (drop-end l i h))

  pub ends_are : length l ≤ i → i ≤ length l → k + 1 ≡ n → EndsAre n l (set ends k (length l))
  ends_are h g r =
      let e = ap fields (drop-end l i h) in
      let last : length l ≡ i = omega arith in
      record {
        counted = count_is h ∙ r;
        sized = length-set ends k (length l) ∙ here.sized;
        ended = rw last λ j a. ended (omega arith) (next ∙ rw e (omega arith)) j (omega arith);
      }

-- what the ends say of field k
module _ {n : ℕ} {l ends : List ℕ} (w : EndsAre n l ends) {k : ℕ} (h : k < n) where
  known : k < length (fields l)
  known = omega (arith, w.counted)

  end_is : get_or ends k 0 ≡ end_of k (fields l)
  end_is = w.ended k h

  pub end_le : get_or ends k 0 ≤ length l
  end_le = rw end_is (end_of_le k l known)

  pub start_le : start_of k (fields l) ≤ get_or ends k 0
  start_le = rw end_is (omega (arith, end_of_is k (fields l) known))

  pub field_is : (a : ℕ) → a ≡ start_of k (fields l) → FieldIs l k (take (get_or ends k 0 - a) (drop a l))
  field_is a e = record { is = rw (e, end_is) (sym (field-part k l known)); part = rw (e, end_is) }

-- a field but the first begins one past the end of the field before
pub start_is : {n : ℕ} {l ends : List ℕ} → EndsAre n l ends → {k : ℕ} → k < n → (k ≡ 0 → ⊥)
    → get_or ends (k - 1) 0 + 1 ≡ start_of k (fields l)
start_is w {k = zero} h m = absurd (m refl)
start_is w {k = suc k} h m = let e : suc k - 1 ≡ k = omega arith in rw (e, w.ended k (omega arith))
