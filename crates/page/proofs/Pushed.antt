-- Laws of what is written behind: nothing, and a text behind a text. Assumes nothing.
use mathlib.Core.Path.{◌≡◌, sym, ◌∙◌}
use mathlib.Core.List.{List, [], ◌++◌, append_assoc, append-nil}
use Prim.Native.Nat.{ℕ, ◌+◌, ◌≤◌}
use native.Mathlib.Omega.{arith}
use lib.ListN.{length, length-append}
use Rattle.page.specs.Pushed.{Pushed}

pub pushed-nothing : (b : List ℕ) → Pushed 0 b [] b
pushed-nothing b = record { is = sym (append-nil b); grown = omega arith; short = omega arith }

module _ {j k : ℕ} {b m a x y : List ℕ} where
  -- a text, and one behind it
  pub pushed_then : {l : ℕ} → Pushed j b x m → Pushed k m y a → j + k ≤ l → Pushed l b (x ++ y) a
  pushed_then f g h =
      record {
        is = g.is ∙ rw f.is (append_assoc b x y);
        grown = omega (arith, length-append x y);
        short = omega (arith, length-append x y);
      }

  -- with no bound given: as many bytes as both have at most
  pub pushed_both : Pushed j b x m → Pushed k m y a → Pushed (j + k) b (x ++ y) a
  pushed_both f g = pushed_then f g (omega arith)

module _ {j l : ℕ} {b a x : List ℕ} where
  -- any bound that the text itself keeps
  pub pushed-within : Pushed j b x a → length x ≤ l → Pushed l b x a
  pushed-within f h = record { is = f.is; grown = f.grown; short = h }

  -- the same text said otherwise, and a looser bound
  pub pushed_as : {y : List ℕ} → x ≡ y → Pushed j b x a → j ≤ l → Pushed l b y a
  pushed_as p f h = rw (← p) (pushed-within f (omega arith))
