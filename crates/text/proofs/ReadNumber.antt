-- Laws of numbers as they are read: digit by digit (`digits_hit`), and by the sign (`number_..`). Assumes nothing.
use mathlib.Core.Path.{◌≡◌}
use mathlib.Core.Logic.{inl, inr}
use mathlib.Core.Bool.{true, false, ◌&&◌, and-true, and-false}
use mathlib.Core.List.{List, [], ◌∷◌}
use Prim.Native.Nat.{ℕ, ◌+◌, ◌-◌, ◌*◌, ◌≤◌, ◌<◌}
use native.Mathlib.Omega.{arith}
use borrow.Author.Tests.{le-leb}
use lib.Dec.{eqb}
use lib.ListN.{length, get_or, drop}
use Rattle.std.specs.Prelude.{Option, None}
use Rattle.std.specs.Option.{option_map}
use Rattle.prelude.specs.Bytes.{every}
use Rattle.prelude.proofs.Tests.{either, lt_or_ge}
use Rattle.text.specs.Number.{is_digit, is_natural, value_from, is_number, is_negative}
use Rattle.text.specs.ReadNumber.{capped, sized, read_natural_lem, read_number_lem}
use Rattle.text.specs.declared.Number.TheVariants.{Plus, Minus}
use Rattle.text.proofs.Lines.{drop_here}

pub le_value_from : (v : ℕ) (s : List ℕ) → v ≤ value_from v s
le_value_from v [] = omega arith
le_value_from v (b ∷ s) = omega (arith, le_value_from (10 * v + (b - 48)) s)

-- a byte that is a digit
pub is_digit-true : (b : ℕ) → 48 ≤ b → b ≤ 57 → is_digit b ≡ true
is_digit-true b h g = rw (le-leb 48 b h, le-leb b 57 g)

module _ (most : ℕ) where
  -- a size may be capped early: what comes after only adds
  capped-from : (v : ℕ) (s : List ℕ) → capped most (value_from (capped most v) s) ≡ capped most (value_from v s)
  capped-from v s =
      elim (lt_or_ge most v) [
        | inl h ↦
            let e : capped most v ≡ most + 1 = omega arith in
            rw e (omega (arith, le_value_from v s, le_value_from (most + 1) s))
        | inr h ↦ let e : capped most v ≡ v = omega arith in rw e
      ]

  -- the digits s behind others of size v
  abbrev pub digits_from : ℕ → List ℕ → Option ℕ
  digits_from v s = sized (every is_digit s) (capped most (value_from v s))

  module _ (v : ℕ) (s : List ℕ) (i : ℕ) where
    pub digits_hit : i < length s → 48 ≤ get_or s i 0 → get_or s i 0 ≤ 57
        → digits_from v (drop i s) ≡ digits_from (capped most (10 * v + (get_or s i 0 - 48))) (drop (i + 1) s)
    digits_hit h l g = rw (drop_here s i h, is_digit-true (get_or s i 0) l g, capped-from)

module _ (most : ℕ) (f : List ℕ) where
  pub minus_zero : is_negative f && eqb (get_or f 1 0) 48 ≡ true → read_number_lem most f ≡ None
  unfolding read_number_lem is_number
  minus_zero e = rw (e, and-false)

  module _ (n : is_negative f && eqb (get_or f 1 0) 48 ≡ false) where
    pub number_minus : is_negative f ≡ true
        → read_number_lem most f ≡ option_map (λ v. Minus v) (read_natural_lem most (drop 1 f))
    unfolding read_number_lem is_number
    number_minus e = rw (n, e, and-true) (elim (either (is_natural (drop 1 f))) [ inl t ↦ rw t | inr t ↦ rw t ])

    pub number_plus : is_negative f ≡ false
        → read_number_lem most f ≡ option_map (λ v. Plus v) (read_natural_lem most f)
    unfolding read_number_lem is_number
    number_plus e = rw (n, e, and-true) (elim (either (is_natural f)) [ inl t ↦ rw t | inr t ↦ rw t ])
