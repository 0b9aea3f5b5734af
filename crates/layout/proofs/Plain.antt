-- Bytes of fields are neither commas nor line feeds: letters and names. Assumes nothing.
use mathlib.Core.Path.{◌≡◌, refl}
use mathlib.Core.Logic.{inl, inr}
use mathlib.Core.Bool.{true, ◌&&◌, ◌||◌}
use mathlib.Core.List.{List, [], ◌∷◌}
use Prim.Native.Nat.{ℕ}
use native.Mathlib.Omega.{arith}
use borrow.Author.Tests.{eqb-true}
use lib.Dec.{eqb, leb}
use lib.ListN.{length, get_or}
use Rattle.prelude.specs.Bytes.{every}
use Rattle.prelude.proofs.Tests.{and-true, and_both, or-true}
use Rattle.prelude.proofs.Bytes.{every_mono}
use Rattle.text.specs.Lines.{plain}
use Rattle.text.specs.Number.{is_digit}
use Rattle.text.proofs.Numbers.{plain_byte, plain-digit}
use Rattle.names.specs.Names.{is_letter_lem, is_name_lem, is_one_letter_lem}
use Rattle.names.proofs.Tokens.{letter-bounds}

pub plain-letter : (b : ℕ) → is_letter_lem b ≡ true → plain b ≡ true
plain-letter b e = let p = letter-bounds b e in plain_byte b (λ z. omega arith) (λ z. omega arith)

pub plain-name : (f : List ℕ) → is_name_lem f ≡ true → every plain f ≡ true
plain-name [] e = refl
plain-name (b ∷ s) e =
    let p = and-true (is_letter_lem b) (every (λ c. is_letter_lem c || is_digit c) s && leb (length (b ∷ s)) 8) e in
    let q = and-true (every (λ c. is_letter_lem c || is_digit c) s) (leb (length (b ∷ s)) 8) p.1 in
    let rest = every_mono (λ c. is_letter_lem c || is_digit c) plain letter_or_digit s q.0 in
    and_both (plain b) (every plain s) (plain-letter b p.0) rest
  where
    letter_or_digit : (c : ℕ) → is_letter_lem c || is_digit c ≡ true → plain c ≡ true
    letter_or_digit c e = elim (or-true (is_letter_lem c) (is_digit c) e)
        [ inl p ↦ plain-letter c p | inr p ↦ plain-digit c p ]

-- a field of one letter
pub one_letter : (f : List ℕ) → is_one_letter_lem f ≡ true → (f ≡ get_or f 0 0 ∷ [])
    × (is_letter_lem (get_or f 0 0) ≡ true)
one_letter f e =
    let p = and-true (eqb (length f) 1) (is_letter_lem (get_or f 0 0)) e in
    (alone f (eqb-true (length f) 1 p.0), p.1)
  where
    alone : (f : List ℕ) → length f ≡ 1 → f ≡ get_or f 0 0 ∷ []
    alone [] h = absurd (omega arith)
    alone (b ∷ []) h = refl
    alone (b ∷ (c ∷ s)) h = absurd (omega arith)
