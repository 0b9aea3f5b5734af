-- A section on a page: its lines are texts one behind the other, so a loop that writes them behind the section's first
-- line writes the section. Assumes nothing.
use mathlib.Core.Path.{◌≡◌, refl, ap}
use mathlib.Core.List.{List, [], ◌∷◌, ◌++◌}
use Prim.Native.Nat.{ℕ, zero, suc, ◌+◌, ◌≤◌}
use Prim.Native.String.{String}
use Rattle.prelude.specs.Bounded.{tabulate_from, tabulate}
use Rattle.prelude.specs.Bytes.{ascii}
use Rattle.prelude.proofs.Bounded.{length-tabulate}
use Rattle.text.specs.Lines.{line}
use Rattle.text.specs.Decimal.{decimal}
use Rattle.page.specs.Joined.{join_from}
use Rattle.page.specs.Pushed.{Pushed}
use Rattle.page.proofs.Pushed.{pushed_then}
use Rattle.layout.specs.Layout.{lines, section}

module _ (f : ℕ → List ℕ) where
  lines-tabulate_from : (i n : ℕ) → lines (tabulate_from i n f) ≡ join_from i n f
  lines-tabulate_from i zero = refl
  lines-tabulate_from i (suc n) = ap (λ (l : List ℕ). f i ++ l) (lines-tabulate_from (suc i) n)

  section-tabulate : (word : String) (n : ℕ)
      → line (ascii word) (decimal n ∷ []) ++ join_from 0 n f ≡ section word (tabulate n f)
  section-tabulate word n = rw (length-tabulate f n, lines-tabulate_from 0 n)

-- the first line, and the lines of a table of n
pub section_pushed : (word : String) (ls : List (List ℕ)) (n : ℕ) (f : ℕ → List ℕ) → ls ≡ tabulate n f
    → {j k l : ℕ} {b m a : List ℕ}
    → Pushed j b (line (ascii word) (decimal n ∷ [])) m
    → Pushed k m (join_from 0 n f) a
    → j + k ≤ l → Pushed l b (section word ls) a
section_pushed word ls n f p g h w = rw (p, ← section-tabulate f word n) (pushed_then g h w)
