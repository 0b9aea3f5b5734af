-- The mask of a list, one record at a time, from any mask x. The letters of the list fit x where each is one of a to
-- z that does not stand in x, and none stands twice. One record more whose letter is free leaves the rest to fit as
-- it did (`fits-with_heard`), and one whose letter is not sets the bit `misnamed`. So by induction that bit is clear at
-- the end just where it was in x and the list fits (`named-said`), and then the mask says what x said and what the
-- list says (`said_more`); from the empty mask, what the list says (`said-says`). Assumes nothing.
use mathlib.Core.Path.{◌≡◌, refl, sym, ◌∙◌}
use mathlib.Core.Logic.{inl, inr}
use mathlib.Core.Bool.{Bool, true, false, ◌&&◌, ◌||◌, not, beq, and_assoc}
use mathlib.Core.Bool.{and-true as and-true-right, and-false as and-false-right, or-true as or-true_right}
use mathlib.Core.Bool.{or-false as or-false-right}
use mathlib.Core.List.{List, [], ◌∷◌}
use Prim.Native.Nat.{ℕ}
use native.Mathlib.Omega.{arith}
use borrow.Author.Tests.{not-true}
use lib.Dec.{eqb}
use Rattle.prelude.specs.Bytes.{is_in, every, distinct}
use Rattle.prelude.proofs.Tests.{either, and-true, eqb_same}
use Rattle.network.specs.Scenario.{truth}
use Rattle.names.specs.Names.{is_letter_lem}
use Rattle.dispatch.specs.Heard.{letters_of, says}
use Rattle.dispatch.specs.Said.{bit_of, misnamed, with_bit, said_on, stands_on, with_heard, said_from}
use Rattle.dispatch.specs.declared.Heard.{Heard}
use Rattle.dispatch.proofs.Letters.{nothing_said, unsaid, truth-with_bit, said-with, misnamed-with}

-- a letter that a record may add to the mask x, and the letters of a list that may
abbrev pub free : ℕ → ℕ → Bool
free x l = is_letter_lem l && not (stands_on x l)

abbrev pub fits : ℕ → List ℕ → Bool
fits x ls = every (free x) ls && distinct ls

-- with either truth, of a record with the truth v and of the others
either_truth : (a b e v : Bool) → ((e && beq v true) || a) || ((e && beq v false) || b) ≡ e || (a || b)
either_truth a b false v = refl
either_truth a b true true = refl
either_truth true b true false = refl
either_truth false b true false = refl

not_or : (a b e : Bool) → a && not (e || b) ≡ (a && not b) && not e
not_or false b e = refl
not_or true b false = sym (and-true-right (not b))
not_or true b true = sym (and-false-right (not b))

regroup : (a b c d : Bool) → (a && not b) && (c && not d) ≡ (a && c) && not (b || d)
regroup false b c d = refl
regroup true true true d = refl
regroup true true false d = refl
regroup true false c d = refl

or_swap : (a b c : Bool) → (a || b) || c ≡ b || (a || c)
or_swap true b c = sym (or-true_right b)
or_swap false b c = refl

-- a letter that is free is a letter, and is said with neither truth
module _ (x l : ℕ) (f : free x l ≡ true) where
  pub free_letter : is_letter_lem l ≡ true
  free_letter = (and-true (is_letter_lem l) (not (stands_on x l)) f).0

  pub free_unsaid : (v : Bool) → said_on x l v ≡ false
  free_unsaid v = unsaid x l v (not-true (stands_on x l) (and-true (is_letter_lem l) (not (stands_on x l)) f).1)

-- what is free once the letter l stands
module _ (x l : ℕ) (v : Bool) (e : is_letter_lem l ≡ true) where
  abbrev more : ℕ
  more = with_bit x (bit_of l v)

  free_with : (k : ℕ) → free more k ≡ free x k && not (eqb l k)
  free_with k =
      elim (either (is_letter_lem k)) [
        | inl f ↦
            rw (
              said-with x l v e k true f,
              said-with x l v e k false f,
              either_truth (said_on x k true)
                  (said_on x k false) (eqb l k) v,
            )
            (not_or (is_letter_lem k) (stands_on x k) (eqb l k))
        | inr f ↦ rw f
      ]

  every_free : (ks : List ℕ) → every (free more) ks ≡ every (free x) ks && not (is_in l ks)
  every_free [] = refl
  every_free (k ∷ ks) = rw (free_with k, every_free ks) (regroup (free x k) (eqb l k) (every (free x) ks) (is_in l ks))

-- one record more
module _ (x : ℕ) (h : Heard) where
  pub with_heard-other : free x h.letter ≡ false → with_heard x h ≡ with_bit x misnamed
  unfolding with_heard
  with_heard-other n = rw n

  misnamed-set : free x h.letter ≡ false → truth (with_heard x h) misnamed ≡ true
  misnamed-set n =
      rw (with_heard-other n) (truth-with_bit x misnamed misnamed (omega arith) (omega arith)
      ∙ or-true_right (truth x misnamed))

  module _ (f : free x h.letter ≡ true) where
    pub with_heard_free : with_heard x h ≡ with_bit x (bit_of h.letter h.truth)
    unfolding with_heard
    with_heard_free = rw f

    letter : is_letter_lem h.letter ≡ true
    letter = free_letter x h.letter f

    misnamed-kept : truth (with_heard x h) misnamed ≡ truth x misnamed
    misnamed-kept = rw with_heard_free (misnamed-with x h.letter h.truth letter)

    said-with_heard : (l : ℕ) (v : Bool) → is_letter_lem l ≡ true
        → said_on (with_heard x h) l v ≡ (eqb h.letter l && beq h.truth v) || said_on x l v
    said-with_heard l v e = rw with_heard_free (said-with x h.letter h.truth letter l v e)

    pub fits-with_heard : (ls : List ℕ) → fits (with_heard x h) ls ≡ fits x (h.letter ∷ ls)
    fits-with_heard ls =
        rw (with_heard_free, every_free x h.letter h.truth letter ls, f)
        (and_assoc (every (free x) ls) (not (is_in h.letter ls)) (distinct ls))

-- the bit `misnamed` after the list
pub named-said : (x : ℕ) (hs : List Heard) → not (truth (said_from x hs) misnamed) ≡ not (truth x misnamed)
    && fits x (letters_of hs)
named-said x [] = sym (and-true-right (not (truth x misnamed)))
named-said x (h ∷ hs) =
    named-said (with_heard x h) hs
    ∙ elim (either (free x h.letter)) [
      | inl f ↦ rw (misnamed-kept x h f, fits-with_heard x h f (letters_of hs))
      | inr n ↦ rw (misnamed-set x h n, n) (sym (and-false-right (not (truth x misnamed))))
    ]

-- the first letter of a list that fits
pub fits-first : (x l : ℕ) (ls : List ℕ) → fits x (l ∷ ls) ≡ true → free x l ≡ true
fits-first x l ls w =
    let all = (and-true (every (free x) (l ∷ ls)) (distinct (l ∷ ls)) w).0 in
    (and-true (free x l) (every (free x) ls) all).0

-- what the mask says after a list that fits
said_more : (x : ℕ) (hs : List Heard) (l : ℕ) (v : Bool) → is_letter_lem l ≡ true → fits x (letters_of hs) ≡ true
    → said_on (said_from x hs) l v ≡ said_on x l v || says hs l v
said_more x [] l v e w = sym (or-false-right (said_on x l v))
said_more x (h ∷ hs) l v e w =
    let ls = letters_of hs in
    let f = fits-first x h.letter ls w in
    said_more (with_heard x h) hs l v e (fits-with_heard x h f ls ∙ w)
    ∙ rw (said-with_heard x h f l v e)
    (or_swap (eqb h.letter l && beq h.truth v) (said_on x l v) (says hs l v))

-- a letter stands in the list with one truth or the other
says_either : (hs : List Heard) (l : ℕ) → says hs l true || says hs l false ≡ is_in l (letters_of hs)
says_either [] l = refl
says_either (h ∷ hs) l =
    either_truth (says hs l true) (says hs l false) (eqb h.letter l) h.truth
    ∙ rw (eqb_same h.letter l l h.letter sym sym, says_either hs l)

-- a list that fits the empty mask
module _ (hs : List Heard) (w : fits 0 (letters_of hs) ≡ true) where
  pub said-says : (l : ℕ) (v : Bool) → is_letter_lem l ≡ true → said_on (said_from 0 hs) l v ≡ says hs l v
  said-says l v e = said_more 0 hs l v e w ∙ rw (nothing_said l v)

  pub stands-said : (l : ℕ) → is_letter_lem l ≡ true → stands_on (said_from 0 hs) l ≡ is_in l (letters_of hs)
  stands-said l e = rw (said-says l true e, said-says l false e) (says_either hs l)
