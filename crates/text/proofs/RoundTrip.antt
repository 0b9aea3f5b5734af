-- Both round trips, for all numbers: what is written is well formed and reads as it was (`is_natural-decimal`,
-- `value_from-decimal`), and what is well formed is written as it was (`decimal-value_from`). Assumes nothing.
use mathlib.Core.Path.{◌≡◌, refl, sym, ◌∙◌, ap}
use mathlib.Core.Logic.{inl, inr}
use mathlib.Core.Bool.{Bool, true, false, ◌||◌, not}
use mathlib.Core.List.{List, [], ◌∷◌, ◌++◌, append-nil, append_assoc}
use Prim.Native.Nat.{ℕ, zero, suc, ◌+◌, ◌-◌, ◌*◌, ◌/◌, ◌%◌, ◌≤◌, ◌<◌}
use native.Mathlib.Omega.{arith}
use borrow.Author.Tests.{leb-true, eqb-true, eq-eqb, ne_eqb}
use lib.Dec.{leb, eqb}
use lib.ListN.{length, get_or, length-append, get_or-append}
use Rattle.prelude.specs.Bytes.{every}
use Rattle.prelude.proofs.Tests.{and-true, and_both, clash, eq_or_ne}
use Rattle.text.specs.Number.{is_digit, is_natural, value_from}
use Rattle.text.specs.Decimal.{decimal}
use Rattle.text.proofs.ReadNumber.{is_digit-true}
use Rattle.text.proofs.Decimal.{decimal_digit, decimal-more, by_digits}

pub value_from-append : (v : ℕ) (s t : List ℕ) → value_from v (s ++ t) ≡ value_from (value_from v s) t
value_from-append v [] t = refl
value_from-append v (b ∷ s) t = value_from-append (10 * v + (b - 48)) s t

-- what is written reads as it was
pub value_from-decimal : (v : ℕ) → value_from 0 (decimal v) ≡ v
value_from-decimal =
    by_digits (λ v s. value_from 0 s ≡ v)
    (λ v h. omega arith)
    (λ v s h e. rw (value_from-append 0 s ((48 + v % 10) ∷ []), e) (omega arith))

pub every_append : (f : ℕ → Bool) (s t : List ℕ) → every f s ≡ true → every f t ≡ true → every f (s ++ t) ≡ true
every_append f [] t h k = k
every_append f (b ∷ s) t h k =
    let p = and-true (f b) (every f s) h in
    and_both (f b) (every f (s ++ t)) p.0 (every_append f s t p.1 k)

pub last-digit : (v : ℕ) → v < 10 → every is_digit ((48 + v) ∷ []) ≡ true
last-digit v h = rw (is_digit-true (48 + v) (omega arith) (omega arith))

every-decimal : (v : ℕ) → every is_digit (decimal v) ≡ true
every-decimal =
    by_digits (λ v s. every is_digit s ≡ true)
    last-digit
    (λ v s h e. every_append is_digit s ((48 + v % 10) ∷ []) e (last-digit (v % 10) (omega arith)))

-- only 0 begins with a zero
first_decimal : (v : ℕ) → 1 ≤ v → (0 < length (decimal v)) × (get_or (decimal v) 0 0 ≡ 48 → ⊥)
first_decimal =
    by_digits (λ v s. 1 ≤ v → (0 < length s) × (get_or s 0 0 ≡ 48 → ⊥))
    (λ v h l. (omega arith, λ z. omega arith))
    (λ v s h e l.
    let p = e (omega arith) in
    let last = (48 + v % 10) ∷ [] in
    (omega (arith, length-append s last, p.0), λ z. p.1 (sym (get_or-append s last 0 0 p.0) ∙ z)))

pub is_natural-first : (s : List ℕ) → every is_digit s ≡ true → 0 < length s → (get_or s 0 0 ≡ 48 → ⊥)
    → is_natural s ≡ true
is_natural-first [] e h n = absurd (omega arith)
is_natural-first (b ∷ s) e h n =
    and_both (every is_digit (b ∷ s)) (not (eqb b 48) || eqb (length s) 0) e (rw (ne_eqb b 48 n))

-- what is written is well formed
pub is_natural-decimal : (v : ℕ) → is_natural (decimal v) ≡ true
is_natural-decimal zero = refl
is_natural-decimal (suc v) =
    let p = first_decimal (suc v) (omega arith) in
    is_natural-first (decimal (suc v)) (every-decimal (suc v)) p.0 p.1

pub digit-bounds : (b : ℕ) → is_digit b ≡ true → (48 ≤ b) × (b ≤ 57)
digit-bounds b e = let p = and-true (leb 48 b) (leb b 57) e in (leb-true 48 b p.0, leb-true b 57 p.1)

-- one digit, and all digits, behind those of v, which is not 0
decimal-digit-on : (v b : ℕ) → 1 ≤ v → 48 ≤ b → b ≤ 57 → decimal (10 * v + (b - 48)) ≡ decimal v ++ b ∷ []
decimal-digit-on v b h l g =
    let w = 10 * v + (b - 48) in
    let t : w / 10 ≡ v = omega arith in
    let u : 48 + w % 10 ≡ b = omega arith in
    decimal-more w (omega arith)
    ∙ ap (λ (x : ℕ). decimal x ++ (48 + w % 10) ∷ []) t
    ∙ ap (λ (x : ℕ). decimal v ++ x ∷ []) u

decimal-value_from-on : (v : ℕ) (s : List ℕ) → 1 ≤ v → every is_digit s ≡ true
    → decimal (value_from v s) ≡ decimal v ++ s
decimal-value_from-on v [] h e = sym (append-nil (decimal v))
decimal-value_from-on v (b ∷ s) h e =
    let p = and-true (is_digit b) (every is_digit s) e in
    let l = digit-bounds b p.0 in
    let w = 10 * v + (b - 48) in
    decimal-value_from-on w s (omega (arith, h)) p.1
    ∙ ap (λ (t : List ℕ). t ++ s) (decimal-digit-on v b h l.0 l.1)
    ∙ append_assoc (decimal v) (b ∷ []) s

-- what is well formed is written as it was
pub decimal-value_from : (f : List ℕ) → is_natural f ≡ true → decimal (value_from 0 f) ≡ f
decimal-value_from [] e = clash false e refl
decimal-value_from (b ∷ s) e =
    let p = and-true (every is_digit (b ∷ s)) (not (eqb b 48) || eqb (length s) 0) e in
    let q = and-true (is_digit b) (every is_digit s) p.0 in
    let l = digit-bounds b q.0 in
    elim (eq_or_ne b 48) [
      | inl z ↦ alone s (eqb-true (length s) 0 (rw (eq-eqb b 48 z) at p.1)) z
      | inr n ↦ from s q.1 l.0 l.1 n
    ]
  where
    alone : (s : List ℕ) → length s ≡ 0 → b ≡ 48 → decimal (value_from 0 (b ∷ s)) ≡ b ∷ s
    alone [] h z = rw z
    alone (a ∷ s) h z = absurd (omega arith)

    from : (s : List ℕ) → every is_digit s ≡ true → 48 ≤ b → b ≤ 57 → (b ≡ 48 → ⊥)
        → decimal (value_from 0 (b ∷ s)) ≡ b ∷ s
    from s d h g n =
        let w = 10 * 0 + (b - 48) in
        let u : 48 + w ≡ b = omega arith in
        decimal-value_from-on w s (omega arith) d
        ∙ ap (λ (t : List ℕ). t ++ s) (decimal_digit w (omega arith) ∙ ap (λ (x : ℕ). x ∷ []) u)
