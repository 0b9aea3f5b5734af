-- Lengths: of a line as it is read and as it is written; a sheet with `fix` read as `max` is as long as the sheet, so
-- that one that is too long is read alike (`read_long`); and a sheet has no more lines, and so no more `fix` rows, than
-- bytes. Assumes nothing.
use mathlib.Core.Path.{◌≡◌, refl, sym, ◌∙◌, ap}
use mathlib.Core.Logic.{inl, inr}
use mathlib.Core.Bool.{true}
use mathlib.Core.List.{List, [], ◌∷◌, map}
use Prim.Native.Nat.{ℕ, ◌+◌, ◌≤◌, ◌<◌}
use native.Mathlib.Omega.{arith}
use lib.Dec.{eqb}
use lib.ListN.{length, drop, length-append}
use Rattle.std.specs.Prelude.{Err}
use Rattle.std.proofs.lemmas.List.Sums.{count_by-le-length}
use Rattle.prelude.specs.Bytes.{ascii}
use Rattle.prelude.proofs.Tests.{either}
use Rattle.text.specs.Lines.{line_feed}
use Rattle.refusal.specs.Refusal.{refusal}
use Rattle.refusal.specs.declared.Cause.TheVariants.{TooLong}
use Rattle.network.specs.declared.Kind.TheVariants.{Max, Min}
use Rattle.sheet.specs.Reading.{longest, read}
use Rattle.sheet.proofs.Sections.{read_too_long}
use Rattle.layout.specs.Layout.{lines}
use Rattle.conversion.specs.Rows.{into_line, lines_of, is_fix_lem, fixes, with_kind}
use Rattle.conversion.specs.FormerRules.{as_max, read_as_max_lem}
use Rattle.conversion.specs.Converted.{doubled}
use Rattle.conversion.proofs.Lines.{lines_lines_of, lines_of_feed, lines_of_byte}
use Rattle.conversion.proofs.AsMax.{fix_front}

-- a `fix` row has its word
pub fix_length : (l : List ℕ) → is_fix_lem l ≡ true → length l ≡ 3 + length (drop 3 l)
fix_length l e = ap length (fix_front l e) ∙ length-append (ascii "fix") (drop 3 l)

pub length_as_max : (l : List ℕ) → length (as_max l) ≡ length l
length_as_max l =
    elim (either (is_fix_lem l)) [
      | inl e ↦ rw e (length-append (ascii "max") (drop 3 l) ∙ sym (fix_length l e))
      | inr e ↦ rw e
    ]

pub length_doubled : (l : List ℕ) → is_fix_lem l ≡ true → length (doubled l) ≡ length l + length l
length_doubled l e =
    rw e
    (omega (
      arith,
      length-append (with_kind Max l) (with_kind Min l),
      length-append (ascii "max") (drop 3 l),
      length-append (ascii "min") (drop 3 l),
      fix_length l e,
    ))

length-lines : (ls : List (List ℕ)) → length (lines (map as_max ls)) ≡ length (lines ls)
length-lines [] = refl
length-lines (l ∷ ls) =
    omega (
      arith,
      length-append (as_max l) (lines (map as_max ls)),
      length-append l (lines ls),
      length_as_max l,
      length-lines ls,
    )

pub length-read_as_max : (s : List ℕ) → length (read_as_max_lem s) ≡ length s
unfolding read_as_max_lem
length-read_as_max s = length-lines (lines_of s) ∙ ap length (lines_lines_of s)

-- a sheet that is too long is so with `fix` read as `max`
pub read_long : (s : List ℕ) → longest < length s → read (read_as_max_lem s) ≡ Err (refusal TooLong 0)
read_long s h = read_too_long (read_as_max_lem s) (omega (arith, length-read_as_max s))

pub lines_of-few : (s : List ℕ) → length (lines_of s) ≤ length s
lines_of-few [] = omega arith
lines_of-few (b ∷ s) =
    elim (either (eqb b line_feed)) [
      | inl e ↦ rw (lines_of_feed b s e) (omega (arith, lines_of-few s))
      | inr e ↦ rw (lines_of_byte b s e) (omega (arith, into_line-few b (lines_of s), lines_of-few s))
    ]
  where
    into_line-few : (b : ℕ) (ls : List (List ℕ)) → length (into_line b ls) ≤ length ls + 1
    into_line-few b [] = omega arith
    into_line-few b (l ∷ ls) = omega arith

pub fixes-few : (s : List ℕ) → fixes s ≤ length s
fixes-few s = omega (arith, count_by-le-length is_fix_lem (lines_of s), lines_of-few s)
