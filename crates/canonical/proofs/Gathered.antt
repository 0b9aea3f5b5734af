-- Laws of lines for what is gathered, as the reactions and the labels that a form lists: their lines one behind the
-- other; the section of them; and how many there are. Assumes nothing.
use mathlib.Core.Path.{◌≡◌, refl, sym, ◌∙◌, ap}
use mathlib.Core.Logic.{inl, inr}
use mathlib.Core.Bool.{Bool, not}
use mathlib.Core.Option.{Option, none, some}
use mathlib.Core.List.{List, [], ◌∷◌, ◌++◌, append-nil, map}
use Prim.Native.Nat.{ℕ, zero, suc, ◌+◌, ◌≤◌, ◌<◌}
use Prim.Native.String.{String}
use native.Mathlib.Numerals.{add-one}
use native.Mathlib.Omega.{arith}
use lib.ListN.{length, get_or, take, length-append, length-map}
use Rattle.std.proofs.Common.{count_by}
use Rattle.std.proofs.lemmas.List.Sums.{count_by_more_yes, count_by_more_no}
use Rattle.prelude.specs.Search.{unless}
use Rattle.prelude.proofs.Tests.{either}
use Rattle.prelude.specs.Bytes.{ascii}
use Rattle.prelude.specs.Gather.{ahead, gather_from, gather}
use Rattle.prelude.proofs.Gather.{gather-more}
use Rattle.text.specs.Lines.{line}
use Rattle.text.specs.Decimal.{decimal}
use Rattle.page.specs.Joined.{join_from}
use Rattle.page.specs.Pushed.{Pushed}
use Rattle.page.proofs.Pushed.{pushed_as, pushed_then}
use Rattle.layout.specs.Layout.{lines, section}

module _ {A : Type 0} (line_of : A → List ℕ) where
  -- the line of an answer, if there is one
  abbrev pub line_by : Option A → List ℕ
  line_by o = lines (map line_of (ahead o []))

  line_first : (o : Option A) (xs : List A)
      → lines (map line_of (ahead o xs)) ≡ line_by o ++ lines (map line_of xs)
  line_first none xs = refl
  line_first (some x) xs = sym (ap (λ (t : List ℕ). t ++ lines (map line_of xs)) (append-nil (line_of x)))

module _ {A : Type 0} (f : ℕ → Option A) where
  -- how many are gathered below p
  abbrev pub count_below : ℕ → ℕ
  count_below p = length (gather p f)

  module _ (line_of : A → List ℕ) where
    lines_join : (i n : ℕ) → lines (map line_of (gather_from i n f)) ≡ join_from i n (λ p. line_by line_of (f p))
    lines_join i zero = refl
    lines_join i (suc n) =
        line_first line_of (f i) (gather_from (suc i) n f)
        ∙ ap (λ (t : List ℕ). line_by line_of (f i) ++ t) (lines_join (suc i) n)

    -- the first line with their number, and theirs behind it, are the section
    pub gathered_pushed : (word : String) (n count : ℕ) → count ≡ count_below n
        → {j k l : ℕ} {b m a : List ℕ}
        → Pushed j b (line (ascii word) (decimal count ∷ [])) m
        → Pushed k m (join_from 0 n (λ p. line_by line_of (f p))) a
        → j + k ≤ l → Pushed l b (section word (map line_of (gather n f))) a
    gathered_pushed word n count c first rest fits =
        let ls = map line_of (gather n f) in
        pushed_as (ap (λ (v : ℕ). line (ascii word) (decimal v ∷ []) ++ lines ls)
        (c ∙ sym (length-map (gather n f) line_of)))
        (pushed_then first (rw (← lines_join 0 n) at rest) fits) (omega arith)

-- of the answers that a test lets through there are as many as elements that pass it
module _ {A B : Type 0} (fails : B → Bool) (answer : ℕ → A) (xs : List B) (d : B) where
  abbrev passing : ℕ → Option A
  passing p = unless (fails (get_or xs p d)) (answer p)

  abbrev passes : B → Bool
  passes x = not (fails x)

  more : (n : ℕ) → length (gather (suc n) passing) ≡ length (gather n passing) + length (ahead (passing n) [])
  more n = rw (gather-more passing n) (length-append (gather n passing) (ahead (passing n) []))

  pub counted_gathered : (n : ℕ) → n ≤ length xs → count_by passes (take n xs) ≡ length (gather n passing)
  counted_gathered zero h = refl
  counted_gathered (suc n) h =
      let l : n < length xs = omega arith in
      let rest = counted_gathered n (omega arith) in
      elim (either (fails (get_or xs n d))) [
        | inl e ↦
            let none : length (ahead (passing n) []) ≡ 0 = rw e in
            let same = rw add-one at (count_by_more_no passes xs n d l (rw e)) in
            omega (arith, more n, none, same, rest)
        | inr e ↦
            let one : length (ahead (passing n) []) ≡ 1 = rw e in
            let next = rw add-one at (count_by_more_yes passes xs n d l (rw e)) in
            omega (arith, more n, one, next, rest)
      ]
