-- Laws of lines: what stands before a separator, and what a scan that has come to i knows of `drop i s`. Assumes
-- nothing.
use mathlib.Core.Path.{◌≡◌, refl, sym, ap}
use mathlib.Core.Logic.{inl, inr}
use mathlib.Core.Bool.{Bool, true, false, not, cond}
use mathlib.Core.List.{List, [], ◌∷◌, ◌++◌}
use Prim.Native.Nat.{ℕ, suc, ◌+◌, ◌-◌, ◌≤◌, ◌<◌}
use native.Mathlib.Numerals.{add-one}
use native.Mathlib.Omega.{arith}
use borrow.Author.Tests.{eq-eqb, ne_eqb, eqb-true, eqb-false, lt-ltb, le-ltb}
use lib.Dec.{eqb}
use lib.ListN.{length, get_or, take, drop, length-drop, drop_of_length-le}
use lib.Seq.{drop-cons, take_all}
use Rattle.std.specs.Prelude.{Some, None, unwrap_or, nat_lt}
use Rattle.std.specs.List.{position, position_or_len}
use Rattle.prelude.specs.Bytes.{is_in, same}
use Rattle.prelude.proofs.Tests.{either, clash}
use Rattle.text.specs.Lines.{line_feed, up_to, ends_at, after_line}

-- a part that runs to the end of its slice, `&s[a..]`
pub take-drop : (s : List ℕ) (a : ℕ) → take (length s - a) (drop a s) ≡ drop a s
take-drop s a = take_all (length s - a) (drop a s) (omega (arith, length-drop a s))

-- what is left of s at i: a byte and what is left behind it, or nothing
pub drop_here : (s : List ℕ) (i : ℕ) → i < length s → drop i s ≡ get_or s i 0 ∷ drop (i + 1) s
drop_here s i h = rw (add-one, drop-cons s i 0)

pub drop-end : (s : List ℕ) (i : ℕ) → length s ≤ i → drop i s ≡ []
drop-end s i h = drop_of_length-le s h

module _ (d : ℕ) where
  pub up_to_le : (s : List ℕ) → length (up_to d s) ≤ length s
  up_to_le [] = omega arith
  up_to_le (b ∷ s) =
      elim (either (eqb b d)) [
        | inl e ↦ rw (e, up_to) (omega arith)
        | inr e ↦ rw (e, up_to) (omega (arith, up_to_le s))
      ]

  pub take_up_to : (s : List ℕ) → take (length (up_to d s)) s ≡ up_to d s
  take_up_to [] = refl
  take_up_to (b ∷ s) =
      elim (either (eqb b d)) [
        | inl e ↦ rw (e, up_to)
        | inr e ↦ rw (e, up_to, take_up_to s)
      ]

  -- d stands in s just where something of s is left behind what stands before it
  pub up_to_lt_of_is_in : (s : List ℕ) → is_in d s ≡ true → length (up_to d s) < length s
  up_to_lt_of_is_in [] e = clash false e refl
  up_to_lt_of_is_in (b ∷ s) e =
      elim (either (eqb b d)) [
        | inl p ↦ rw (p, up_to) (omega arith)
        | inr p ↦
            let q : is_in d s ≡ true = rw (ne_eqb d b (λ z. eqb-false b d p (sym z))) at e in
            rw (p, up_to) (omega (arith, up_to_lt_of_is_in s q))
      ]

  pub up_to_eq_of_not-is_in : (s : List ℕ) → is_in d s ≡ false → up_to d s ≡ s
  up_to_eq_of_not-is_in [] e = refl
  up_to_eq_of_not-is_in (b ∷ s) e =
      elim (either (eqb b d)) [
        | inl p ↦ clash true refl (rw (eq-eqb d b (sym (eqb-true b d p))) at e)
        | inr p ↦
            let q : is_in d s ≡ false = rw (ne_eqb d b (λ z. eqb-false b d p (sym z))) at e in
            rw (p, up_to, up_to_eq_of_not-is_in s q)
      ]

  pub is_in_of_up_to_lt : (s : List ℕ) → length (up_to d s) < length s → is_in d s ≡ true
  is_in_of_up_to_lt s h =
      elim (either (is_in d s)) [ inl p ↦ p | inr q ↦ absurd (omega (arith, ap length (up_to_eq_of_not-is_in s q))) ]

  pub not-is_in_of_up_to_le : (s : List ℕ) → length s ≤ length (up_to d s) → is_in d s ≡ false
  not-is_in_of_up_to_le s h =
      elim (either (is_in d s)) [ inl p ↦ absurd (omega (arith, up_to_lt_of_is_in s p)) | inr q ↦ q ]

  -- s is what stands before d, d, and the rest
  pub up_to_split : (s : List ℕ) → is_in d s ≡ true → s ≡ (up_to d s ++ d ∷ []) ++ drop (suc (length (up_to d s))) s
  up_to_split [] e = clash false e refl
  up_to_split (b ∷ s) e =
      elim (either (eqb b d)) [
        | inl p ↦ rw (p, up_to) (ap (λ (x : ℕ). x ∷ s) (eqb-true b d p))
        | inr p ↦
            let q : is_in d s ≡ true = rw (ne_eqb d b (λ z. eqb-false b d p (sym z))) at e in
            rw (p, up_to) (ap (λ (t : List ℕ). b ∷ t) (up_to_split s q))
      ]

  pub is_in-behind : (s rest : List ℕ) → is_in d (s ++ d ∷ rest) ≡ true
  is_in-behind [] rest = rw (eq-eqb d d refl)
  is_in-behind (b ∷ s) rest = elim (either (eqb d b)) [ inl e ↦ rw e | inr e ↦ rw e (is_in-behind s rest) ]

-- lists of two lengths differ
pub same_length : (a b : List ℕ) → (length a ≡ length b → ⊥) → same a b ≡ false
same_length [] [] n = absurd (n refl)
same_length [] (y ∷ b) n = refl
same_length (x ∷ a) [] n = refl
same_length (x ∷ a) (y ∷ b) n =
    elim (either (eqb x y)) [ inl e ↦ rw (e, same_length a b (λ h. n (ap suc h))) | inr e ↦ rw e ]

-- the end of a line: it is missing, or the line is what stands before it
module _ (rest : List ℕ) (e : ℕ) (is : e ≡ length (up_to line_feed rest)) where
  pub line_missing : e ≡ length rest → is_in line_feed rest ≡ false
  line_missing h = not-is_in_of_up_to_le line_feed rest (omega arith)

  pub line-ends : (e ≡ length rest → ⊥) → is_in line_feed rest ≡ true
  line-ends n = is_in_of_up_to_lt line_feed rest (let h = up_to_le line_feed rest in omega arith)

  pub line_le : e ≤ length rest
  line_le = let h = up_to_le line_feed rest in omega arith

  pub line-is : take e rest ≡ up_to line_feed rest
  line-is = rw is (take_up_to line_feed rest)

-- a line that ends lies inside its bytes, with its line feed
pub line-inside : (s : List ℕ) (at : ℕ) → ends_at s at ≡ true → after_line s at ≤ length s
line-inside s at e = omega (arith, up_to_lt_of_is_in line_feed (drop at s) e, length-drop at s)

-- the place of the first d is the length of what stands before it
module _ (d : ℕ) where
  first_turn : (t : Bool) (b n : ℕ) (s : List ℕ) → n ≡ length (up_to d s)
      → cond (not t) (1 + n) 0 ≡ length {A = ℕ} (elim t [ true ↦ [] | false ↦ b ∷ up_to d s ])
  first_turn true b n s e = refl
  first_turn false b n s e = omega (arith, e)

  pub position-up_to : (s : List ℕ) → position_or_len (λ b. eqb b d) s ≡ length (up_to d s)
  position-up_to [] = refl
  position-up_to (b ∷ s) =
      first_turn (eqb b d) b (position_or_len (λ c. eqb c d) s) s (position-up_to s)

  -- so `find` gives it where d stands in s, and none elsewhere
  found : (t : Bool) (n m : ℕ) → n ≤ m → (t ≡ false → n ≡ m) → (t ≡ true → n < m)
      → cond (nat_lt n m) (Some n) None ≡ cond t (Some n) None
  found true n m h f g = rw (lt-ltb n m (g refl))
  found false n m h f g = rw (le-ltb n m (omega (arith, f refl)))

  pub find-is : (s : List ℕ) → position (λ b. eqb b d) s ≡ cond (is_in d s) (Some (length (up_to d s))) None
  find-is s =
      rw (position-up_to s)
      (found (is_in d s) (length (up_to d s)) (length s) (up_to_le d s)
      (λ e. ap length (up_to_eq_of_not-is_in d s e)) (up_to_lt_of_is_in d s))

  pub until-is : (s : List ℕ) → unwrap_or (position (λ b. eqb b d) s) (length s) ≡ length (up_to d s)
  until-is s =
      rw (find-is s)
      (elim (either (is_in d s)) [ inl e ↦ rw e | inr e ↦ rw e (ap length (sym (up_to_eq_of_not-is_in d s e))) ])
