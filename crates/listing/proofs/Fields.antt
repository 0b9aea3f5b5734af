-- A line of the listing is a line of text: a first field, and those behind it by their number or as a row of the table
-- has them. Assumes nothing.
use mathlib.Core.Path.{◌≡◌, refl, sym, ◌∙◌, ap}
use mathlib.Core.List.{List, [], ◌∷◌, ◌++◌, map, append_assoc}
use Prim.Native.Nat.{ℕ, zero, suc, ◌+◌, ◌*◌, ◌≤◌, ◌<◌}
use native.Mathlib.Omega.{arith}
use lib.ListN.{length, get_or, take, drop, length-drop, get_or-map}
use lib.Seq.{length-take-le, get_or-take}
use Rattle.std.proofs.lemmas.List.{length-map, get_or-drop}
use Rattle.prelude.specs.Bounded.{tabulate_from, tabulate}
use Rattle.prelude.proofs.Lists.{tabulate-is}
use Rattle.text.specs.Lines.{comma, line_feed, line}
use Rattle.page.specs.Joined.{join_from}
use Rattle.listing.specs.Listing.{scenario_text, time_text, line_over, time_texts}
use Rattle.listing.specs.Line.{fields_of, times_of, line_of}

line-tabulate_from : (f : List ℕ) (g : ℕ → List ℕ) (i n : ℕ)
    → f ++ (join_from i n (λ j. comma ∷ g j) ++ line_feed ∷ []) ≡ line f (tabulate_from i n g)
line-tabulate_from f g i zero = refl
line-tabulate_from f g i (suc n) =
    ap (λ (t : List ℕ). f ++ comma ∷ t)
    (append_assoc (g i) (join_from (suc i) n (λ j. comma ∷ g j)) (line_feed ∷ []) ∙ line-tabulate_from (g i) g
    (suc i) n)

pub line-tabulate : (f : List ℕ) (n : ℕ) (g : ℕ → List ℕ) → f ++ fields_of n g ≡ line f (tabulate n g)
line-tabulate f n g = line-tabulate_from f g 0 n

-- the texts of a row, by the number of each
texts_of-row : (row : List ℕ) (n : ℕ) (g : ℕ → List ℕ) → length row ≡ n
    → ((u : ℕ) → u < n → g u ≡ time_text (get_or row u 0)) → tabulate n g ≡ map time_text row
texts_of-row row n g e h =
    let size : length (map time_text row) ≡ n = length-map row time_text ∙ e in
    tabulate-is g (time_text 0) n (map time_text row) (sym size)
    (λ u l. h u (omega arith) ∙ sym (get_or-map time_text row u 0))

pub line-row : (k s : ℕ) (row : List ℕ) → scenario_text k s ++ times_of row ≡ line_of k s row
line-row k s row =
    let g = λ (u : ℕ). time_text (get_or row u 0) in
    line-tabulate (scenario_text k s) (length row) g
    ∙ ap (λ (ts : List (List ℕ)). line (scenario_text k s) ts) (texts_of-row row (length row) g refl (λ u h. refl))

-- the row of scenario s in a table
pub line_of-table : (k n s : ℕ) (σ : List ℕ) → s * n + n ≤ length σ
    → line_of k s (take n (drop (s * n) σ)) ≡ line_over k n (time_texts n σ) s
line_of-table k n s σ h =
    let row = take n (drop (s * n) σ) in
    let size : length row ≡ n = length-take-le n (drop (s * n) σ) (omega (arith, length-drop (s * n) σ)) in
    sym (ap (λ (ts : List (List ℕ)). line (scenario_text k s) ts)
    (texts_of-row row n (time_texts n σ s) size
    (λ u l. ap time_text (sym (get_or-take n (drop (s * n) σ) u 0 l ∙ get_or-drop (s * n) σ u 0)))))
