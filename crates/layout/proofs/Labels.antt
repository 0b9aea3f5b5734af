-- A field is a label exactly where it is a label's letters as they are written. Assumes nothing.
use mathlib.Core.Path.{◌≡◌, refl, sym, ◌∙◌, ap}
use mathlib.Core.Logic.{inl, inr}
use mathlib.Core.Bool.{Bool, true, false, not}
use mathlib.Core.List.{List, [], ◌∷◌, ◌++◌}
use Prim.Native.Nat.{ℕ, ◌≤◌}
use native.Mathlib.Omega.{arith}
use borrow.Author.Tests.{leb-true, le-leb, eqb-true, ne_eqb, not-true}
use lib.Dec.{eqb, leb}
use lib.ListN.{length}
use Rattle.prelude.specs.Bytes.{every}
use Rattle.prelude.proofs.Bytes.{same_true}
use Rattle.prelude.proofs.Tests.{either, clash, and-true, and_both}
use Rattle.text.specs.Lines.{plain}
use Rattle.names.specs.Names.{is_letter_lem, are_literals_lem, is_dash_lem, is_label_lem, Literal, literals, label_of}
use Rattle.names.specs.Names.{letters_of}
use Rattle.layout.specs.Layout.{sign_text, literals_text, label_text}
use Rattle.names.proofs.Tokens.{letter-bounds}
use Rattle.layout.proofs.Plain.{plain-letter}

no_bang : (b : ℕ) → is_letter_lem b ≡ true → eqb b 33 ≡ false
no_bang b e = let p = letter-bounds b e in ne_eqb b 33 (λ z. omega arith)

-- what is written is read as it was
literals_sign : (b : ℕ) (v : Bool) (s : List ℕ) → is_letter_lem b ≡ true
    → literals false (sign_text v ++ b ∷ s) ≡ record { letter = b; value = v } ∷ literals false s
literals_sign b true s e = rw (no_bang b e, literals)
literals_sign b false s e = rw (no_bang b e, literals)

are_literals_sign : (b : ℕ) (v : Bool) (s : List ℕ) → is_letter_lem b ≡ true → are_literals_lem false s ≡ true
    → are_literals_lem false (sign_text v ++ b ∷ s) ≡ true
are_literals_sign b true s e a = rw (no_bang b e, are_literals_lem, e, a)
are_literals_sign b false s e a = rw (no_bang b e, are_literals_lem, e, a)

plain_sign : (b : ℕ) (v : Bool) (s : List ℕ) → is_letter_lem b ≡ true → every plain s ≡ true
    → every plain (sign_text v ++ b ∷ s) ≡ true
plain_sign b true s e a = and_both (plain b) (every plain s) (plain-letter b e) a
plain_sign b false s e a = and_both (plain b) (every plain s) (plain-letter b e) a

module _ (l : Literal) (ls : List Literal) (e : every is_letter_lem (letters_of (l ∷ ls)) ≡ true) where
  first-is : is_letter_lem l.letter ≡ true
  first-is = (and-true (is_letter_lem l.letter) (every is_letter_lem (letters_of ls)) e).0

  others-are : every is_letter_lem (letters_of ls) ≡ true
  others-are = (and-true (is_letter_lem l.letter) (every is_letter_lem (letters_of ls)) e).1

literals-literals_text : (ls : List Literal) → every is_letter_lem (letters_of ls) ≡ true
    → literals false (literals_text ls) ≡ ls
literals-literals_text [] e = refl
literals-literals_text (l ∷ ls) e =
    literals_sign l.letter l.value (literals_text ls) (first-is l ls e)
    ∙ ap (λ (t : List Literal). l ∷ t) (literals-literals_text ls (others-are l ls e))

are_literals-literals_text : (ls : List Literal) → every is_letter_lem (letters_of ls) ≡ true
    → are_literals_lem false (literals_text ls) ≡ true
are_literals-literals_text [] e = refl
are_literals-literals_text (l ∷ ls) e =
    are_literals_sign l.letter l.value (literals_text ls) (first-is l ls e)
    (are_literals-literals_text ls (others-are l ls e))

plain-literals_text : (ls : List Literal) → every is_letter_lem (letters_of ls) ≡ true → every plain (literals_text ls)
    ≡ true
plain-literals_text [] e = refl
plain-literals_text (l ∷ ls) e =
    plain_sign l.letter l.value (literals_text ls) (first-is l ls e) (plain-literals_text ls (others-are l ls e))

-- what is read is written as it was; a `!` just read still stands before it
literals_text-literals : (bang : Bool) (s : List ℕ) → are_literals_lem bang s ≡ true
    → (literals_text (literals bang s) ≡ sign_text (not bang) ++ s)
    × (every is_letter_lem (letters_of (literals bang s)) ≡ true)
literals_text-literals true [] e = clash false e refl
literals_text-literals false [] e = (refl, refl)
literals_text-literals bang (b ∷ s) e =
    elim (either (eqb b 33)) [
      | inl p ↦
          let q = and-true (not bang) (are_literals_lem true s) (rw (p, are_literals_lem) at e) in
          let r = literals_text-literals true s q.1 in (
            rw (p, literals, not-true bang q.0, r.0) (ap (λ (x : ℕ). x ∷ s) (sym (eqb-true b 33 p))),
            rw
                (p, literals) r.1,
          )
      | inr p ↦
          let q = and-true (is_letter_lem b) (are_literals_lem false s) (rw (p, are_literals_lem) at e) in
          let r = literals_text-literals false s q.1 in
          let ls = letters_of (literals false s) in
          (rw (p, literals, r.0), rw (p, literals) (and_both (is_letter_lem b) (every is_letter_lem ls) q.0 r.1))
    ]

-- `-` has no letter
not_dash : (f : List ℕ) → are_literals_lem false f ≡ true → is_dash_lem f ≡ false
not_dash f e =
    elim (either (is_dash_lem f)) [ inl p ↦ clash false (rw (same_true f (45 ∷ []) p) at e) refl | inr p ↦ p ]

some-text : (l : Literal) (ls : List Literal) → 1 ≤ length (literals_text (l ∷ ls))
some-text l ls = some_sign l.value
  where
    some_sign : (v : Bool) → 1 ≤ length (sign_text v ++ l.letter ∷ literals_text ls)
    some_sign true = omega arith
    some_sign false = omega arith

label_of_dash : (f : List ℕ) → is_dash_lem f ≡ true → label_of f ≡ []
label_of_dash f e = rw (e, label_of)

label_of_letters : (f : List ℕ) → is_dash_lem f ≡ false → label_of f ≡ literals false f
label_of_letters f e = rw (e, label_of)

pub label_of_label_text : (ls : List Literal) → every is_letter_lem (letters_of ls) ≡ true
    → label_of (label_text ls) ≡ ls
label_of_label_text [] e = refl
label_of_label_text (l ∷ ls) e =
    label_of_letters (literals_text (l ∷ ls)) (not_dash (literals_text (l ∷ ls)) (are_literals-literals_text
    (l ∷ ls) e))
    ∙ literals-literals_text (l ∷ ls) e

pub is_label-label_text : (ls : List Literal) → every is_letter_lem (letters_of ls) ≡ true
    → is_label_lem (label_text ls) ≡ true
is_label-label_text [] e = refl
is_label-label_text (l ∷ ls) e =
    let a = are_literals-literals_text (l ∷ ls) e in
    rw (not_dash (literals_text (l ∷ ls)) a, le-leb 1 (length (literals_text (l ∷ ls))) (some-text l ls), a)

pub plain-label_text : (ls : List Literal) → every is_letter_lem (letters_of ls) ≡ true → every plain (label_text ls)
    ≡ true
plain-label_text [] e = refl
plain-label_text (l ∷ ls) e = plain-literals_text (l ∷ ls) e

label_text-some : (ls : List Literal) → 1 ≤ length (literals_text ls) → label_text ls ≡ literals_text ls
label_text-some [] h = absurd (omega arith)
label_text-some (l ∷ ls) h = refl

-- a field that is a label is the text of its letters
pub record IsLabel (f : List ℕ) : Type 0 where
  pub text : label_text (label_of f) ≡ f
  pub letters : every is_letter_lem (letters_of (label_of f)) ≡ true

pub is-label : (f : List ℕ) → is_label_lem f ≡ true → IsLabel f
is-label f e =
    elim (either (is_dash_lem f)) [
      | inl p ↦ let d = label_of_dash f p in record { text = rw d (sym (same_true f (45 ∷ []) p)); letters = rw d }
      | inr p ↦
          let q = and-true (leb 1 (length f)) (are_literals_lem false f) (rw p at e) in
          let r = literals_text-literals false f q.1 in
          let some : 1 ≤ length (literals_text (literals false f)) = rw r.0 (leb-true 1 (length f) q.0) in
          let d = label_of_letters f p in
          record { text = rw d (label_text-some (literals false f) some ∙ r.0); letters = rw d r.1 }
    ]
