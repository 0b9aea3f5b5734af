-- A list, the n elements of which from a on are those of another now. Assumes nothing.
use mathlib.Core.Path.{◌≡◌, ◌∙◌}
use mathlib.Core.List.{List, ◌++◌}
use Prim.Native.Nat.{ℕ, ◌+◌, ◌-◌, ◌≤◌, ◌<◌}
use native.Mathlib.Omega.{arith}
use borrow.Rule.Slice.PartMut.{put_mid, mid_of, same_len_mid}
use Rattle.std.proofs.lemmas.List.{get_or-append_right}
use lib.ListN.{length, get_or, take, drop, length-drop, get_or-append}
use lib.Seq.{length-take-le, get_or-take}

module _ (a n : ℕ) (xs : List ℕ) (room : a + n ≤ length xs) where
  pub part_count : length (mid_of a n xs) ≡ n
  part_count = length-take-le n (drop a xs) (omega (arith, length-drop a xs))

  module _ (ys : List ℕ) (size : length ys ≡ length (mid_of a n xs)) where
    pub part-size : length (put_mid a n xs ys) ≡ length xs
    part-size = same_len_mid a n xs ys size

    front : length (take a xs) ≡ a
    front = length-take-le a xs (omega arith)

    pub part-before : (i : ℕ) → i < a → get_or (put_mid a n xs ys) i 0 ≡ get_or xs i 0
    part-before i l =
        get_or-append (take a xs) (ys ++ drop n (drop a xs)) 0 i (omega (arith, front)) ∙ get_or-take a xs i 0 l

    pub part-inside : (u : ℕ) → u < n → get_or (put_mid a n xs ys) (a + u) 0 ≡ get_or ys u 0
    part-inside u l =
        let back : a + u - a ≡ u = omega arith in
        get_or-append_right (take a xs) (ys ++ drop n (drop a xs)) a (a + u) 0 front (omega arith)
        ∙ rw back (get_or-append ys (drop n (drop a xs)) 0 u (omega (arith, size, part_count)))
