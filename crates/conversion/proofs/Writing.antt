-- A loop that writes texts one behind the other, line by line, has come so far: what is written and what is left make
-- the whole text, so that there is room for each. Assumes nothing.
use mathlib.Core.Path.{◌≡◌, ◌∙◌, ap}
use mathlib.Core.List.{List, [], ◌∷◌, ◌++◌, append_assoc}
use Prim.Native.Nat.{ℕ, suc, ◌+◌, ◌≤◌}
use native.Mathlib.Omega.{arith}
use lib.ListN.{length, take, drop, length-append}
use lib.Seq.{take-nil, drop-nil}
use Rattle.layout.specs.Layout.{lines}

-- the page, and behind it what is still to be written, is the whole text
abbrev pub Writing : List ℕ → List ℕ → List (List ℕ) → Type 0
Writing whole page texts = page ++ lines texts ≡ whole

module _ (page t : List ℕ) (ts : List (List ℕ)) {whole : List ℕ} (here : Writing whole page (t ∷ ts)) where
  pub writing-room : length page + length t ≤ length whole
  writing-room = omega (arith, ap length here, length-append page (t ++ lines ts), length-append t (lines ts))

  writing-next : {p : List ℕ} → p ≡ page ++ t → Writing whole p ts
  writing-next e = rw e (append_assoc page t (lines ts) ∙ here)

-- of n lines, which are written as they are, m are still to be: they are the first of those that are left, and behind
-- them stands what stands behind the n
pub record Fronting (n : ℕ) (all : List (List ℕ)) (before : List ℕ) (m : ℕ) (left : List (List ℕ)) (page : List ℕ)
    : Type 0 where
  pub written : Writing (before ++ lines (take n all)) page (take m left)
  pub behind : drop m left ≡ drop n all

module _ {n m k : ℕ} {all left : List (List ℕ)} {before page : List ℕ} (here : Fronting n all before m left page)
    (one : m ≡ suc k) where
  pub fronting-room : {l : List ℕ} {ls : List (List ℕ)} → left ≡ l ∷ ls
      → length page + length l ≤ length before + length (lines (take n all))
  fronting-room {l = l} {ls = ls} e =
      let room = writing-room page l (take k ls) (rw (one, e) at here.written) in
      omega (arith, room, length-append before (lines (take n all)))

  pub fronting-line : {l p : List ℕ} {ls : List (List ℕ)} → left ≡ l ∷ ls → p ≡ page ++ l
      → Fronting n all before k ls p
  fronting-line {l = l} {ls = ls} e f =
      record {
        written = writing-next page l (take k ls) (rw (one, e) at here.written) f;
        behind = rw (one, e) at here.behind;
      }

  -- fewer lines are left
  pub fronting-end : {ls : List (List ℕ)} → left ≡ [] → ls ≡ [] → Fronting n all before k ls page
  fronting-end e f =
      record {
        written = rw (f, take-nil k) (rw (one, e) at here.written);
        behind = rw (f, drop-nil k) (rw (one, e) at here.behind);
      }
