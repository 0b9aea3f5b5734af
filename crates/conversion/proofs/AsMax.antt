-- Laws of the sheet with `fix` read as `max`: it has the same lines, each with its kind read so
-- (`lines_of_read_as_max`), as the words have the same length and no line feed in them. Assumes nothing.
use mathlib.Core.Path.{◌≡◌, refl, sym, ◌∙◌, ap, subst}
use mathlib.Core.Logic.{inl, inr}
use mathlib.Core.Bool.{true, false}
use mathlib.Core.List.{List, [], ◌∷◌, ◌++◌, map}
use Prim.Native.Nat.{ℕ, ◌≤◌}
use native.Mathlib.Omega.{arith}
use borrow.Author.Tests.{ne_eqb, eqb-true}
use lib.Dec.{eqb}
use lib.ListN.{length, take, drop, take-append-drop}
use lib.Seq.{take-take}
use Rattle.prelude.specs.Bytes.{ascii, is_in}
use Rattle.prelude.proofs.Tests.{either, and-true}
use Rattle.prelude.proofs.Bytes.{same_true}
use Rattle.text.specs.Lines.{comma, line_feed, up_to, fields, field}
use Rattle.text.proofs.Lines.{up_to_le, take_up_to}
use Rattle.text.proofs.Fields.{1-le-fields, up_to_field}
use Rattle.network.specs.declared.Kind.TheVariants.{Max}
use Rattle.line.specs.Tests.{is_retired}
use Rattle.layout.specs.Layout.{lines}
use Rattle.conversion.specs.Rows.{lines_of, first_line, is_fix_lem, with_kind}
use Rattle.conversion.specs.FormerRules.{as_max, read_as_max_lem}
use Rattle.conversion.proofs.Lines.{cut_at, behind, behind-none, first-again, lines_of_first, by_lines}

-- whether a line of so many fields is a `fix` row
pub is_fix-other : (l : List ℕ) → (length (fields (up_to line_feed l)) ≡ 5 → ⊥) → is_fix_lem l ≡ false
unfolding is_fix_lem
is_fix-other l n = rw (ne_eqb (length (fields (up_to line_feed l))) 5 n)

pub is_fix-five : (l : List ℕ) → length (fields (up_to line_feed l)) ≡ 5
    → is_fix_lem l ≡ is_retired (field 0 (fields (up_to line_feed l)))
unfolding is_fix_lem
is_fix-five l e = rw e

-- a `fix` row has five fields, and begins with its word
pub fix_fields : (l : List ℕ) → is_fix_lem l ≡ true → length (fields (up_to line_feed l)) ≡ 5
unfolding is_fix_lem
fix_fields l e =
    let fs = fields (up_to line_feed l) in
    eqb-true (length fs) 5 (and-true (eqb (length fs) 5) (is_retired (field 0 fs)) e).0

pub fix_front : (l : List ℕ) → is_fix_lem l ≡ true → l ≡ ascii "fix" ++ drop 3 l
unfolding is_fix_lem
fix_front l e =
    let x = up_to line_feed l in
    let p = and-true (eqb (length (fields x)) 5) (is_retired (field 0 (fields x))) e in
    let word : up_to comma x ≡ ascii "fix" =
    up_to_field 0 x (1-le-fields x) ∙ same_true (field 0 (fields x)) (ascii "fix") p.1 in
    let three : take 3 x ≡ ascii "fix" = rw word at (take_up_to comma x) in
    let long : 3 ≤ length x = omega (arith, ap length word, up_to_le comma x) in
    let front : take 3 l ≡ ascii "fix" =
    sym (take-take 3 (length x) l long) ∙ ap (take 3) (take_up_to line_feed l) ∙ three in
    sym (take-append-drop 3 l) ∙ ap (λ (w : List ℕ). w ++ drop 3 l) front

pub as_max_fix : (l : List ℕ) → is_fix_lem l ≡ true → as_max l ≡ with_kind Max l
as_max_fix l e = rw e

pub as_max-other : (l : List ℕ) → is_fix_lem l ≡ false → as_max l ≡ l
as_max-other l e = rw e

-- a line that is read so stays the first before other lines
again_fix : (u t : List ℕ) → (is_in line_feed u ≡ false → t ≡ [])
    → lines_of (with_kind Max (first_line (ascii "fix" ++ u)) ++ t)
    ≡ with_kind Max (first_line (ascii "fix" ++ u)) ∷ lines_of t
again_fix u t n = first-again (ascii "max" ++ u) t (omega arith) n

again : (s t : List ℕ) → 1 ≤ length s → (is_in line_feed s ≡ false → t ≡ [])
    → lines_of (as_max (first_line s) ++ t) ≡ as_max (first_line s) ∷ lines_of t
again s t h n =
    elim (either (is_fix_lem (first_line s))) [
      | inl e ↦
          let u = drop 3 (first_line s) ++ behind s in
          let is : s ≡ ascii "fix" ++ u =
          sym (take-append-drop (cut_at s) s) ∙ ap (λ (l : List ℕ). l ++ behind s) (fix_front (first_line s) e) in
          rw (as_max_fix (first_line s) e)
          (subst
          (λ (x : List ℕ). lines_of (with_kind Max (first_line x) ++ t) ≡ with_kind Max (first_line x) ∷ lines_of t)
          (sym is) (again_fix u t (λ q. n (ap (is_in line_feed) is ∙ q))))
      | inr e ↦ rw (as_max-other (first_line s) e) (first-again s t h n)
    ]

pub read_as_max-none : read_as_max_lem [] ≡ []
unfolding read_as_max_lem
read_as_max-none = refl

pub read_as_max-first : (s : List ℕ) → 1 ≤ length s
    → read_as_max_lem s ≡ as_max (first_line s) ++ read_as_max_lem (behind s)
unfolding read_as_max_lem
read_as_max-first s h = ap (λ (ls : List (List ℕ)). lines (map as_max ls)) (lines_of_first s h)

pub lines_of_read_as_max : (s : List ℕ) → lines_of (read_as_max_lem s) ≡ map as_max (lines_of s)
lines_of_read_as_max =
    by_lines (λ s. lines_of (read_as_max_lem s) ≡ map as_max (lines_of s)) (ap lines_of read_as_max-none) (λ s h rest.
    ap lines_of (read_as_max-first s h)
    ∙ again s (read_as_max_lem (behind s)) h (λ e. ap read_as_max_lem (behind-none s e) ∙ read_as_max-none)
    ∙ ap (λ (ls : List (List ℕ)). as_max (first_line s) ∷ ls) rest ∙ sym (ap (map as_max) (lines_of_first s h)))
