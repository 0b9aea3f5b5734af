-- Laws of names, letters and labels, byte by byte: a scan of f that has come to i is about `drop i f`. Assumes nothing.
use mathlib.Core.Path.{◌≡◌, refl, sym, ◌∙◌, ap}
use mathlib.Core.Logic.{inl, inr}
use mathlib.Core.Bool.{Bool, true, false, ◌&&◌, ◌||◌, not, cond, beq, and-false}
use mathlib.Core.List.{List, [], ◌∷◌}
use Prim.Native.Nat.{ℕ, zero, suc, ◌+◌, ◌≤◌, ◌<◌}
use native.Mathlib.Omega.{arith}
use borrow.Author.Tests.{leb-true, le-leb, lt-leb, eq-eqb, ne_eqb}
use lib.Dec.{eqb, leb}
use lib.ListN.{length, get_or, drop}
use Rattle.std.specs.List.{list_all, enumerate_from}
use Rattle.prelude.specs.Bytes.{is_in, distinct}
use Rattle.prelude.proofs.Tests.{and-true as and_parts, clash, either, lt_or_ge, eq_or_ne}
use Rattle.text.proofs.Lines.{drop_here, drop-end}
use Rattle.names.specs.Names.{is_letter_lem, is_name_lem, literals, letters_of}
use Rattle.names.specs.Defined.{all_defined_lem, weight, weights}
use Rattle.names.specs.Scan.{is_met_lem, added_by_lem}

-- letters
pub letter-bounds : (b : ℕ) → is_letter_lem b ≡ true → (97 ≤ b) × (b ≤ 122)
letter-bounds b e = let p = and_parts (leb 97 b) (leb b 122) e in (leb-true 97 b p.0, leb-true b 122 p.1)

pub letter-low : (b : ℕ) → b < 97 → is_letter_lem b ≡ false
letter-low b h = rw (lt-leb 97 b h)

pub letter-from : (b : ℕ) → 97 ≤ b → is_letter_lem b ≡ leb b 122
letter-from b h = rw (le-leb 97 b h)

-- names
pub name-empty : (f : List ℕ) → length f ≡ 0 → is_name_lem f ≡ false
name-empty [] h = refl
name-empty (b ∷ s) h = absurd (omega arith)

pub name_long : (f : List ℕ) → 8 < length f → is_name_lem f ≡ false
name_long [] h = refl
name_long (b ∷ s) h = rw (lt-leb (suc (length s)) 8 h, and-false, and-false)

pub name-short : (f : List ℕ) → is_name_lem f ≡ true → length f ≤ 8
name-short f e = elim (lt_or_ge 8 (length f)) [ inl h ↦ clash (is_name_lem f) e (name_long f h) | inr h ↦ h ]

-- the letters of a label: a bang is none
letters_bang : (s : List ℕ) (a b : Bool) → letters_of (literals a s) ≡ letters_of (literals b s)
letters_bang [] a b = refl
letters_bang (x ∷ s) a b = by_bang (eqb x 33)
  where
    by_bang : (t : Bool)
        → letters_of (elim t [
          | true ↦ literals true s
          | false ↦ record { letter = x; value = not a }
              ∷ literals false s
        ])
        ≡ letters_of (elim t [
          | true ↦ literals true s
          | false ↦ record { letter = x; value = not b }
              ∷ literals false s
        ])
    by_bang true = refl
    by_bang false = refl

abbrev pub letters_in : List ℕ → List ℕ
letters_in t = letters_of (literals false t)

letters_skip : (b : ℕ) (s : List ℕ) → b ≡ 33 → letters_in (b ∷ s) ≡ letters_in s
letters_skip b s e = rw (eq-eqb b 33 e, literals) (letters_bang s true false)

letters_cons : (b : ℕ) (s : List ℕ) → (b ≡ 33 → ⊥) → letters_in (b ∷ s) ≡ b ∷ letters_in s
letters_cons b s n = rw (ne_eqb b 33 n, literals)

module _ (t : List ℕ) (i : ℕ) where
  pub letters_bang_at : i < length t → get_or t i 0 ≡ 33 → letters_in (drop i t) ≡ letters_in (drop (i + 1) t)
  letters_bang_at h e = ap letters_in (drop_here t i h) ∙ letters_skip (get_or t i 0) (drop (i + 1) t) e

  pub letters-at : i < length t → (get_or t i 0 ≡ 33 → ⊥)
      → letters_in (drop i t) ≡ get_or t i 0 ∷ letters_in (drop (i + 1) t)
  letters-at h n = ap letters_in (drop_here t i h) ∙ letters_cons (get_or t i 0) (drop (i + 1) t) n

-- a letter stands among the letters where it stands in the label
pub is_in-letters : (b : ℕ) (s : List ℕ) → (b ≡ 33 → ⊥) → is_in b (letters_in s) ≡ is_in b s
is_in-letters b [] n = refl
is_in-letters b (x ∷ s) n =
    elim (eq_or_ne x 33) [
      | inl e ↦ ap (is_in b) (letters_skip x s e) ∙ is_in-letters b s n ∙ sym (rw (ne_eqb b x (λ p. n (p ∙ e))))
      | inr e ↦ ap (is_in b) (letters_cons x s e) ∙ ap (λ (t : Bool). eqb b x || t) (is_in-letters b s n)
    ]

-- letters are defined where each byte is a bang or is defined
module _ (k : ℕ) (letters : List ℕ) where
  pub all_defined-all : (t : List ℕ) → all_defined_lem k letters (letters_in t) ≡ list_all (is_met_lem k letters) t
  all_defined-all [] = refl
  all_defined-all (b ∷ s) =
      elim (eq_or_ne b 33) [
        | inl e ↦
            ap (all_defined_lem k letters) (letters_skip b s e) ∙ all_defined-all s ∙ sym (rw (eq-eqb b 33 e))
        | inr n ↦
            ap (all_defined_lem k letters) (letters_cons b s n)
            ∙ rw (ne_eqb b 33 n, all_defined-all s)
      ]

module _ (t : List ℕ) (i : ℕ) where
  distinct-on : i < length t → (get_or t i 0 ≡ 33 → ⊥) → is_in (get_or t i 0) (drop (i + 1) t) ≡ false
      → distinct (letters_in (drop i t)) ≡ distinct (letters_in (drop (i + 1) t))
  distinct-on h n e = ap distinct (letters-at t i h n) ∙ rw (is_in-letters (get_or t i 0) (drop (i + 1) t) n ∙ e)

  distinct-stop : i < length t → (get_or t i 0 ≡ 33 → ⊥) → is_in (get_or t i 0) (drop (i + 1) t) ≡ true
      → distinct (letters_in (drop i t)) ≡ false
  distinct-stop h n e = ap distinct (letters-at t i h n) ∙ rw (is_in-letters (get_or t i 0) (drop (i + 1) t) n ∙ e)

-- whether the byte at an index is a bang, or does not stand again behind it
abbrev pub once : List ℕ → ℕ × ℕ → Bool
once t p = eqb p.1 33 || not (is_in p.1 (drop (p.0 + 1) t))

distinct-at : (t : List ℕ) (i : ℕ) → i < length t
    → distinct (letters_in (drop i t)) ≡ once t (i, get_or t i 0) && distinct (letters_in (drop (i + 1) t))
distinct-at t i h =
    let b = get_or t i 0 in
    elim (eq_or_ne b 33) [
      | inl e ↦ ap distinct (letters_bang_at t i h e) ∙ sym (rw (eq-eqb b 33 e))
      | inr n ↦ elim (either (is_in b (drop (i + 1) t))) [
        | inl y ↦ distinct-stop t i h n y ∙ sym (rw (ne_eqb b 33 n, y))
        | inr y ↦ distinct-on t i h n y ∙ sym (rw (ne_eqb b 33 n, y))
      ]
    ]

pub distinct-each : (t : List ℕ) (n i : ℕ) → i + n ≡ length t
    → distinct (letters_in (drop i t)) ≡ list_all (once t) (enumerate_from i (drop i t))
distinct-each t zero i h = rw (drop-end t i (omega arith))
distinct-each t (suc n) i h =
    distinct-at t i (omega arith)
    ∙ ap (λ (z : Bool). once t (i, get_or t i 0) && z) (distinct-each t n (i + 1) (omega arith))
    ∙ sym (ap (λ (s : List ℕ). list_all (once t) (enumerate_from i s)) (drop_here t i (omega arith)))

-- the sum of the weights, byte by byte
weights_cons : (k : ℕ) (letters : List ℕ) (v bang : Bool) (b : ℕ) (s : List ℕ)
    → weights k letters v (literals bang (b ∷ s))
    ≡ added_by_lem k letters v bang b + weights k letters v (literals (eqb b 33) s)
weights_cons k letters v bang b s = by_bang (eqb b 33)
  where
    by_bang : (t : Bool)
        → weights k letters v
        (elim t [ true ↦ literals true s | false ↦ record { letter = b; value = not bang } ∷ literals false s ])
        ≡ cond t 0 (cond (beq v (not bang)) (weight k letters b) 0) + weights k letters v (literals t s)
    by_bang true = omega arith
    by_bang false = refl

module _ (k : ℕ) (letters : List ℕ) (v bang : Bool) (t : List ℕ) (i : ℕ) where
  pub weights-at : i < length t
      → weights k letters v (literals bang (drop i t))
      ≡ added_by_lem k letters v bang (get_or t i 0) + weights k letters v (literals (eqb (get_or t i 0) 33)
      (drop (i + 1) t))
  weights-at h = ap (λ (s : List ℕ). weights k letters v (literals bang s)) (drop_here t i h)
      ∙ weights_cons k letters v bang (get_or t i 0) (drop (i + 1) t)

-- a literal has truth v where v is not whether a bang stands before it
pub same_not : (v bang : Bool) → beq v (not bang) ≡ not (beq v bang)
same_not true true = refl
same_not true false = refl
same_not false true = refl
same_not false false = refl
