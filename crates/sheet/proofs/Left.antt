-- What is left of the sheet from a place on, of which a part is taken. Assumes nothing.
use mathlib.Core.Path.{◌≡◌, ◌∙◌, ap}
use mathlib.Core.List.{List}
use Prim.Native.Nat.{ℕ, ◌+◌, ◌-◌, ◌≤◌}
use native.Mathlib.Omega.{arith}
use lib.ListN.{length, take, drop, length-drop}
use lib.Seq.{drop-drop}
use Rattle.text.proofs.Lines.{take-drop}

module _ (sheet : List ℕ) (at : ℕ) (left : List ℕ) (is : left ≡ drop at sheet) where
  -- behind the part there is what is left from the place behind it
  pub left_behind : (n : ℕ) → take (length left - n) (drop n left) ≡ drop (at + n) sheet
  left_behind n = take-drop left n ∙ ap (drop n) is ∙ drop-drop n at sheet

  -- a part that ends within the sheet ends within what is left
  pub left_holds : (n : ℕ) → at + n ≤ length sheet → n ≤ length left
  left_holds n h = rw is (omega (arith, length-drop at sheet))
