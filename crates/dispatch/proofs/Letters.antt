-- Letters, which lie between two bytes, and their bits in a mask. Two letters with truths have one bit only where both
-- agree, and none has the bit `misnamed` (`bit_of_same`, `bit_of_lt`); so a letter that is added with a truth is said
-- with it, and all else is as it was (`said-with`, `misnamed-with`). The empty mask says nothing. Assumes nothing.
use mathlib.Core.Path.{◌≡◌, sym, ◌∙◌}
use mathlib.Core.Logic.{◌⊎◌, inl, inr}
use mathlib.Core.Bool.{Bool, true, false, ◌&&◌, ◌||◌, beq, or_comm}
use mathlib.Core.Bool.{and-true as and-true-right, and-false as and-false-right, or-false as or-false-right}
use Prim.Native.Nat.{ℕ, ◌^◌, ◌≤◌, ◌<◌}
use native.Mathlib.Nat.{zero-div}
use native.Mathlib.Omega.{arith}
use borrow.Author.Tests.{le-leb, lt-leb, ne_eqb}
use lib.Dec.{eqb}
use Rattle.prelude.proofs.Tests.{or-false, eqb_same}
use Rattle.network.specs.Scenario.{truth}
use Rattle.names.specs.Names.{is_letter_lem}
use Rattle.names.proofs.Tokens.{letter-bounds, letter-low, letter-from}
use Rattle.dispatch.specs.Said.{bit_of, misnamed, with_bit, said_on, stands_on}
use Rattle.dispatch.proofs.Bits.{truth_or, truth-power}

pub letter-between : (l : ℕ) → 97 ≤ l → l ≤ 122 → is_letter_lem l ≡ true
letter-between l h k = letter-from l h ∙ le-leb l 122 k

pub not-letter : (l : ℕ) → (l < 97) ⊎ (122 < l) → is_letter_lem l ≡ false
not-letter l (inl h) = letter-low l h
not-letter l (inr h) = letter-from l (omega arith) ∙ lt-leb l 122 h

-- each has a bit for either truth
pub bit_of_lt : (l : ℕ) (v : Bool) → is_letter_lem l ≡ true → bit_of l v < misnamed
bit_of_lt l true e = let h = letter-bounds l e in omega arith
bit_of_lt l false e = let h = letter-bounds l e in omega arith

pub bit_of_fits : (l : ℕ) (v : Bool) → is_letter_lem l ≡ true → bit_of l v < 64
bit_of_fits l v e = omega (arith, bit_of_lt l v e)

pub bit_of_same : (l k : ℕ) (v w : Bool) → is_letter_lem l ≡ true → is_letter_lem k ≡ true
    → eqb (bit_of l v) (bit_of k w) ≡ eqb l k && beq v w
bit_of_same l k v w e f = go v w (letter-bounds l e) (letter-bounds k f)
  where
    go : (v w : Bool) → (97 ≤ l) × (l ≤ 122) → (97 ≤ k) × (k ≤ 122) → eqb (bit_of l v) (bit_of k w) ≡ eqb l k
        && beq v w
    go true true h i =
        eqb_same (bit_of l true) (bit_of k true) l k (λ q. omega arith) (λ q. omega arith)
        ∙ sym (and-true-right (eqb l k))
    go false false h i =
        eqb_same (bit_of l false) (bit_of k false) l k (λ q. omega arith) (λ q. omega arith)
        ∙ sym (and-true-right (eqb l k))
    go true false h i = ne_eqb (bit_of l true) (bit_of k false) (λ q. omega arith) ∙ sym (and-false-right (eqb l k))
    go false true h i = ne_eqb (bit_of l false) (bit_of k true) (λ q. omega arith) ∙ sym (and-false-right (eqb l k))

pub nothing_said : (l : ℕ) (v : Bool) → said_on 0 l v ≡ false
nothing_said l v = rw (zero-div (2 ^ bit_of l v))

-- what does not stand is not said with either truth
pub unsaid : (x l : ℕ) (v : Bool) → stands_on x l ≡ false → said_on x l v ≡ false
unsaid x l true e = (or-false (said_on x l true) (said_on x l false) e).0
unsaid x l false e = (or-false (said_on x l true) (said_on x l false) e).1

-- one bit more
pub truth-with_bit : (x j k : ℕ) → j < 64 → k < 64 → truth (with_bit x j) k ≡ truth x k || eqb j k
truth-with_bit x j k h l = rw (truth_or, truth-power j k h l)

module _ (x l : ℕ) (v : Bool) (e : is_letter_lem l ≡ true) where
  pub said-with : (k : ℕ) (w : Bool) → is_letter_lem k ≡ true
      → said_on (with_bit x (bit_of l v)) k w ≡ (eqb l k && beq v w) || said_on x k w
  said-with k w f =
      let a = bit_of_lt l v e in
      let b = bit_of_lt k w f in
      truth-with_bit x (bit_of l v) (bit_of k w) (omega arith) (omega arith)
      ∙ rw (bit_of_same l k v w e f) (or_comm (said_on x k w) (eqb l k && beq v w))

  pub misnamed-with : truth (with_bit x (bit_of l v)) misnamed ≡ truth x misnamed
  misnamed-with =
      let a = bit_of_lt l v e in
      truth-with_bit x (bit_of l v) misnamed (omega arith) (omega arith)
      ∙ rw (ne_eqb (bit_of l v) misnamed (λ q. omega arith)) (or-false-right (truth x misnamed))
