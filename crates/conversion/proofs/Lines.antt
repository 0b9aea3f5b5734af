-- Laws of the lines of a sheet: one behind the other they are the sheet; the first of them, and what stands behind it,
-- by which what holds of sheets is shown line by line (`by_lines`); and a line as it is written is one of them. Assumes
-- nothing.
use mathlib.Core.Path.{◌≡◌, refl, sym, ◌∙◌, ap, ap₂}
use mathlib.Core.Logic.{inl, inr}
use mathlib.Core.Bool.{true, false}
use mathlib.Core.List.{List, [], ◌∷◌, ◌++◌, append_assoc}
use Prim.Native.Nat.{ℕ, zero, suc, ◌≤◌}
use native.Mathlib.Omega.{arith}
use borrow.Author.Tests.{ne_eqb, eqb-true, eqb-false}
use lib.Dec.{eqb}
use lib.ListN.{length, drop, length-drop, take-append-drop}
use Rattle.prelude.specs.Bytes.{is_in, every}
use Rattle.prelude.specs.Lists.{Each}
use Rattle.prelude.proofs.Tests.{zero-is-one, either, and-true}
use Rattle.text.specs.Lines.{line_feed, comma, plain, line, up_to}
use Rattle.text.proofs.Lines.{drop-end, up_to_eq_of_not-is_in}
use Rattle.text.proofs.Written.{Plain}
use Rattle.layout.specs.Layout.{lines}
use Rattle.conversion.specs.Rows.{into_line, lines_of, first_line}

-- a sheet's first byte is a line feed, or a byte of the first line
module _ (b : ℕ) (s : List ℕ) where
  pub up_to_feed : eqb b line_feed ≡ true → up_to line_feed (b ∷ s) ≡ []
  up_to_feed e = rw (e, up_to)

  pub up_to_byte : eqb b line_feed ≡ false → up_to line_feed (b ∷ s) ≡ b ∷ up_to line_feed s
  up_to_byte e = rw (e, up_to)

  pub lines_of_feed : eqb b line_feed ≡ true → lines_of (b ∷ s) ≡ (b ∷ []) ∷ lines_of s
  lines_of_feed e = rw (e, lines_of)

  pub lines_of_byte : eqb b line_feed ≡ false → lines_of (b ∷ s) ≡ into_line b (lines_of s)
  lines_of_byte e = rw (e, lines_of)

  pub is_in_byte : eqb b line_feed ≡ false → is_in line_feed (b ∷ s) ≡ is_in line_feed s
  is_in_byte e = rw (ne_eqb line_feed b (λ z. eqb-false b line_feed e (sym z)))

lines_into : (b : ℕ) (ls : List (List ℕ)) → lines (into_line b ls) ≡ b ∷ lines ls
lines_into b [] = refl
lines_into b (l ∷ ls) = refl

pub lines_lines_of : (s : List ℕ) → lines (lines_of s) ≡ s
lines_lines_of [] = refl
lines_lines_of (b ∷ s) =
    elim (either (eqb b line_feed)) [
      | inl e ↦ rw (lines_of_feed b s e, lines_lines_of s)
      | inr e ↦ rw (lines_of_byte b s e, lines_into b (lines_of s), lines_lines_of s)
    ]

-- where the first line ends, with its line feed, and what stands behind it
abbrev pub cut_at : List ℕ → ℕ
cut_at s = suc (length (up_to line_feed s))

abbrev pub behind : List ℕ → List ℕ
behind s = drop (cut_at s) s

-- what stands before its line feed is what stands before that of the first line
pub up_to_first : (t : List ℕ) → up_to line_feed (first_line t) ≡ up_to line_feed t
up_to_first [] = refl
up_to_first (b ∷ t) =
    elim (either (eqb b line_feed)) [
      | inl e ↦ rw (up_to_feed b t e) (up_to_feed b [] e)
      | inr e ↦ rw (up_to_byte b t e) (up_to_byte b (first_line t) e ∙ ap (λ (x : List ℕ). b ∷ x) (up_to_first t))
    ]

-- the first line stays the first before other lines; without a line feed only where nothing follows
pub first-again : (s t : List ℕ) → 1 ≤ length s → (is_in line_feed s ≡ false → t ≡ [])
    → lines_of (first_line s ++ t) ≡ first_line s ∷ lines_of t
first-again [] t h n = absurd (omega arith)
first-again (b ∷ []) t h n =
    elim (either (eqb b line_feed)) [
      | inl e ↦ rw (up_to_feed b [] e) (lines_of_feed b t e)
      | inr e ↦ rw (n (is_in_byte b [] e), up_to_byte b [] e) (lines_of_byte b [] e)
    ]
first-again (b ∷ (c ∷ s)) t h n =
    elim (either (eqb b line_feed)) [
      | inl e ↦ rw (up_to_feed b (c ∷ s) e) (lines_of_feed b t e)
      | inr e ↦
          rw (up_to_byte b (c ∷ s) e)
          (lines_of_byte b (first_line (c ∷ s) ++ t) e
          ∙ ap (into_line b) (first-again (c ∷ s) t (omega arith) (λ q. n (is_in_byte b (c ∷ s) e ∙ q))))
    ]

-- where there is no line feed, nothing stands behind the first line
pub behind-none : (s : List ℕ) → is_in line_feed s ≡ false → behind s ≡ []
behind-none s e = drop-end s (cut_at s) (omega (arith, ap length (up_to_eq_of_not-is_in line_feed s e)))

pub lines_of_first : (s : List ℕ) → 1 ≤ length s → lines_of s ≡ first_line s ∷ lines_of (behind s)
lines_of_first s h =
    ap lines_of (sym (take-append-drop (cut_at s) s)) ∙ first-again s (behind s) h (behind-none s)

-- what holds of no bytes, and of bytes where it holds of what stands behind their first line, holds of all bytes
pub by_lines : (P : List ℕ → Type 0) → P [] → ((s : List ℕ) → 1 ≤ length s → P (behind s) → P s) → (s : List ℕ) → P s
by_lines P none step s = within (length s) s (omega arith)
  where
    within : (n : ℕ) (s : List ℕ) → length s ≤ n → P s
    within n [] h = none
    within zero (b ∷ s) h = absurd (omega arith)
    within (suc n) (b ∷ s) h =
        let all = b ∷ s in
        step all (omega arith) (within n (behind all) (omega (arith, length-drop (cut_at all) all)))

-- plain bytes in front of a line
plain-first : (f s l : List ℕ) (ls : List (List ℕ)) → every plain f ≡ true → lines_of s ≡ l ∷ ls
    → lines_of (f ++ s) ≡ (f ++ l) ∷ ls
plain-first [] s l ls p e = e
plain-first (b ∷ f) s l ls p e =
    let q = and-true (plain b) (every plain f) p in
    elim (either (eqb b line_feed)) [
      | inl z ↦ absurd (is_plain b q.0 z)
      | inr z ↦ lines_of_byte b (f ++ s) z ∙ ap (into_line b) (plain-first f s l ls q.1 e)
    ]
  where
    is_plain : (b : ℕ) → plain b ≡ true → eqb b line_feed ≡ true → ⊥
    is_plain b p z = false-not-true (rw (eqb-true b line_feed z) at p)
      where
        false-not-true : ◌≡◌ false true → ⊥
        false-not-true e = zero-is-one cc

-- a line as it is written
lines_of_line : (f : List ℕ) (gs : List (List ℕ)) (rest : List ℕ) → Plain (f ∷ gs)
    → lines_of (line f gs ++ rest) ≡ line f gs ∷ lines_of rest
lines_of_line f [] rest p =
    ap lines_of (append_assoc f (line_feed ∷ []) rest)
    ∙ plain-first f (line_feed ∷ rest) (line_feed ∷ []) (lines_of rest) p.0 refl
lines_of_line f (g ∷ gs) rest p =
    ap lines_of (append_assoc f (comma ∷ line g gs) rest)
    ∙ plain-first f (comma ∷ line g gs ++ rest) (comma ∷ line g gs) (lines_of rest) p.0
    (ap (into_line comma) (lines_of_line g gs rest p.1))

-- the line of plain fields
pub record IsLine (l : List ℕ) : Type 0 where
  pub one : List ℕ
  pub others : List (List ℕ)
  pub plain_bytes : Plain (one ∷ others)
  pub is : l ≡ line one others

pub lines_of_lines : (ls : List (List ℕ)) (rest : List ℕ) → Each IsLine ls []
    → lines_of (lines ls ++ rest) ≡ ls ++ lines_of rest
lines_of_lines [] rest p = refl
lines_of_lines (l ∷ ls) rest p =
    let w = p.each 0 (omega arith) in
    ap lines_of (append_assoc l (lines ls) rest)
    ∙ ap (λ (x : List ℕ). lines_of (x ++ (lines ls ++ rest))) w.is
    ∙ lines_of_line w.one w.others (lines ls ++ rest) w.plain_bytes
    ∙ ap₂ (λ (x : List ℕ) (xs : List (List ℕ)). x ∷ xs) (sym w.is)
    (lines_of_lines ls rest (record { each = λ i h. p.each (suc i) (omega arith) }))
