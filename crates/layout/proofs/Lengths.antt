-- How long each part of a line is, a line, and a section whose lines have at most so many bytes. Assumes nothing.
use mathlib.Core.Path.{◌≡◌}
use mathlib.Core.Bool.{Bool, true, false}
use mathlib.Core.List.{List, [], ◌∷◌, map}
use Prim.Native.Nat.{ℕ, suc, ◌+◌, ◌*◌, ◌≤◌}
use Prim.Native.String.{String}
use native.Mathlib.Nat.{mul-suc, mul-le-mul_left}
use native.Mathlib.Omega.{arith}
use lib.IntN.{ℤ, pos, negsuc}
use lib.ListN.{length, length-append, length-map}
use Rattle.prelude.specs.Bytes.{ascii}
use Rattle.prelude.specs.Lists.{Each}
use Rattle.prelude.proofs.Mapped.{each_map}
use Rattle.text.specs.Lines.{comma, line_feed, line}
use Rattle.text.specs.Decimal.{decimal}
use Rattle.text.proofs.Decimal.{length-decimal_16}
use Rattle.network.specs.Limits as L
use Rattle.network.specs.WellFormed.{InLimits}
use Rattle.network.specs.declared.Kind.{Kind}
use Rattle.network.specs.declared.Kind.TheVariants.{Max, Min}
use Rattle.names.specs.Names.{Literal}
use Rattle.layout.specs.Layout.{signed_text, sign_text, literals_text, label_text, kind_text, lines, section}
use Rattle.layout.specs.Most.{most_count, most_label}

-- a limit, a label and a kind
pub length_signed : (z : ℤ) → InLimits z → length (signed_text z) ≤ 6
length_signed (pos n) h = omega (arith, length-decimal_16 n (omega arith))
length_signed (negsuc n) h = omega (arith, length-decimal_16 (suc n) (omega arith))

length_sign : (v : Bool) → length (sign_text v) ≤ 1
length_sign true = omega arith
length_sign false = omega arith

length-literals : (ls : List Literal) → length (literals_text ls) ≤ 2 * length ls
length-literals [] = omega arith
length-literals (l ∷ ls) =
    omega (
      arith,
      length-append (sign_text l.value) (l.letter ∷ literals_text ls),
      length_sign l.value,
      length-literals ls,
    )

pub length_label : (ls : List Literal) → length ls ≤ L.signals → length (label_text ls) ≤ most_label
length_label [] h = omega arith
length_label (l ∷ ls) h = omega (arith, length-literals (l ∷ ls))

pub length-kind : (k : Kind) → length (kind_text k) ≤ 3
length-kind Max = omega arith
length-kind Min = omega arith

-- a field and what is behind it
pub length-line : (f : List ℕ) → length (line f []) ≡ length f + 1
length-line f = length-append f (line_feed ∷ [])

pub length-field : (f g : List ℕ) (gs : List (List ℕ)) → length (line f (g ∷ gs)) ≡ length f + suc (length (line g gs))
length-field f g gs = length-append f (comma ∷ line g gs)

pub length-count : (word : List ℕ) (v : ℕ) → v ≤ 65535 → length (line word (decimal v ∷ [])) ≤ most_count (length word)
length-count word v h = omega (arith, length-field word (decimal v) [], length-line (decimal v), length-decimal_16 v h)

-- lines of at most m bytes
length-lines : (m : ℕ) (ls : List (List ℕ)) → Each (λ l. length l ≤ m) ls [] → length (lines ls) ≤ m * length ls
length-lines m [] e = omega arith
length-lines m (l ∷ ls) e =
    let rest = length-lines m ls (record { each = λ i h. e.each (suc i) (omega arith) }) in
    omega (arith, length-append l (lines ls), mul-suc m (length ls), e.each 0 (omega arith), rest)

-- at most n of them, one for each x
pub length-section : {A : Type 0} (word : String) (m n : ℕ) (f : A → List ℕ) (d : A) (xs : List A) → length xs ≤ n
    → n ≤ 65535 → Each (λ x. length (f x) ≤ m) xs d
    → length (section word (map f xs)) ≤ most_count (length (ascii word)) + m * n
length-section word m n f d xs few h e =
    let ls = map f xs in
    let most : length ls ≤ n = omega (arith, length-map xs f) in
    omega (
      arith,
      length-append (line (ascii word) (decimal (length ls) ∷ [])) (lines ls),
      length-count (ascii word) (length ls) (omega arith),
      length-lines m ls (each_map f (λ l. length l ≤ m) d [] xs e),
      mul-le-mul_left m most,
    )
