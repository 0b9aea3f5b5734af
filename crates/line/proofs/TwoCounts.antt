-- Laws of a line of two counts: two that are read each by itself are read as its tests say; and it passes exactly where
-- it holds two numbers of their ranges, as they are written. Assumes nothing.
use mathlib.Core.Path.{◌≡◌, refl, sym, ◌∙◌, ap₂}
use mathlib.Core.Bool.{Bool, true, false, ◌&&◌}
use mathlib.Core.Option.{none, some}
use mathlib.Core.List.{List, [], ◌∷◌}
use Prim.Native.Nat.{ℕ, ◌≤◌}
use borrow.Author.Tests.{eqb-true, eq-eqb, ne_eqb}
use lib.ListN.{length}
use Rattle.prelude.specs.Checks.{first_failing_lem}
use Rattle.prelude.proofs.Checks.{◌&◌, hold, none_fails}
use Rattle.prelude.proofs.Lists.{all_of}
use Rattle.prelude.proofs.Tests.{and-true, and_both}
use Rattle.text.specs.Lines.{field}
use Rattle.text.specs.Number.{is_number, in_range, magnitude}
use Rattle.text.specs.Decimal.{decimal}
use Rattle.text.proofs.Numbers.{is_number_decimal, in_range-decimal, decimal-magnitude}
use Rattle.refusal.specs.declared.Cause.TheVariants as C
use Rattle.line.specs.Tests.{count_tests}
use Rattle.line.specs.Answers.{passing}
use Rattle.line.specs.TwoCounts.{two_counts_tests, two_counts_of, both_lem}
use Rattle.line.specs.declared.two_counts.Range.{Range}

-- n and m say that the numbers are well formed, and v and w that they are in their ranges
both-by : (n v m w : Bool) (a b : ℕ)
    → both_lem (passing ((n, C.IllFormedNumber) ∷ (v, C.OutOfRange) ∷ []) a)
    (passing ((m, C.IllFormedNumber) ∷ (w, C.OutOfRange) ∷ []) b)
    ≡ passing ((n && m, C.IllFormedNumber) ∷ (v && w, C.OutOfRange) ∷ []) (record { first = a; second = b })
both-by true true true true a b = refl
both-by true true true false a b = refl
both-by true true false w a b = refl
both-by true false true true a b = refl
both-by true false true false a b = refl
both-by true false false w a b = refl
both-by false v true true a b = refl
both-by false v true false a b = refl
both-by false v false w a b = refl

module _ (r q : Range) (fs : List (List ℕ)) where
  pub two_counts-fields : (length fs ≡ 2 → ⊥) → first_failing_lem (two_counts_tests r q fs) ≡ some C.WrongFields
  unfolding two_counts_tests
  two_counts-fields n = rw (ne_eqb (length fs) 2 n)

  -- both counts, each read by itself
  pub two_counts-both : length fs ≡ 2
      → both_lem (passing (count_tests r.least r.most (field 0 fs)) (magnitude (field 0 fs)))
      (passing (count_tests q.least q.most (field 1 fs)) (magnitude (field 1 fs)))
      ≡ passing (two_counts_tests r q fs) (two_counts_of fs)
  unfolding two_counts_tests
  two_counts-both n =
      rw (eq-eqb (length fs) 2 n)
      (both-by (is_number (field 0 fs)) (in_range r.least r.most (field 0 fs)) (is_number (field 1 fs))
      (in_range q.least q.most (field 1 fs)) (magnitude (field 0 fs)) (magnitude (field 1 fs)))

  -- a line that passes
  pub record InRanges : Type 0 where
    pub written : fs ≡ decimal (two_counts_of fs).first ∷ decimal (two_counts_of fs).second ∷ []
    pub first : (r.least ≤ (two_counts_of fs).first) × ((two_counts_of fs).first ≤ r.most)
    pub second : (q.least ≤ (two_counts_of fs).second) × ((two_counts_of fs).second ≤ q.most)

  pub two_counts-read : first_failing_lem (two_counts_tests r q fs) ≡ none → InRanges
  unfolding two_counts_tests
  two_counts-read e =
      let t = hold (two_counts_tests r q fs) e in
      let n = and-true (is_number (field 0 fs)) (is_number (field 1 fs)) t.1.0 in
      let v = and-true (in_range r.least r.most (field 0 fs)) (in_range q.least q.most (field 1 fs)) t.1.1.0 in
      let d = decimal-magnitude r.least r.most (field 0 fs) n.0 v.0 in
      let g = decimal-magnitude q.least q.most (field 1 fs) n.1 v.1 in
      record {
        written = all_of [] 2 fs (eqb-true (length fs) 2 t.0)
            ∙ ap₂ (λ (f g : List ℕ). f ∷ g ∷ []) (sym d.0) (sym g.0);
        first = (d.1, d.2);
        second = (g.1, g.2);
      }

-- and two numbers of their ranges pass
pub two_counts-passes : (r q : Range) (a b : ℕ) → r.least ≤ a → a ≤ r.most → q.least ≤ b → b ≤ q.most
    → first_failing_lem (two_counts_tests r q (decimal a ∷ decimal b ∷ [])) ≡ none
unfolding two_counts_tests
two_counts-passes r q a b h i j k =
    none_fails (two_counts_tests r q (decimal a ∷ decimal b ∷ []))
    (refl
    & and_both (is_number (decimal a)) (is_number (decimal b)) (is_number_decimal a) (is_number_decimal b)
    & and_both (in_range r.least r.most (decimal a)) (in_range q.least q.most (decimal b))
    (in_range-decimal a r.least r.most h i) (in_range-decimal b q.least q.most j k)
    & tt)
