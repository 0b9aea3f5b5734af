-- Of the tests of a rule's line, the one with 22 is the first to fail exactly for a `fix` row. Assumes nothing.
use mathlib.Core.Path.{◌≡◌, refl, ap}
use mathlib.Core.Logic.{◌↔◌, inl, inr}
use mathlib.Core.Bool.{Bool, true, not, or-true}
use mathlib.Core.List.{List, ◌++◌}
use Prim.Native.Nat.{ℕ}
use native.Mathlib.Omega.{arith}
use borrow.Author.Tests.{eq-eqb, not-true, not-false}
use lib.Dec.{eqb}
use lib.ListN.{length}
use Rattle.prelude.specs.Checks.{FirstFails}
use Rattle.prelude.specs.Search.{answers}
use Rattle.prelude.proofs.Tests.{clash, and-true, and_both}
use Rattle.text.specs.Lines.{field}
use Rattle.refusal.specs.Refusal.{number_of}
use Rattle.refusal.specs.declared.Cause.{Cause}
use Rattle.refusal.specs.declared.Cause.TheVariants as C
use Rattle.network.specs.declared.Network.{Network}
use Rattle.line.specs.Tests.{Tests, kind_of, is_retired, kind_tests, limit_tests, ends_tests, rule_tests}
use Rattle.sheet.proofs.Order.{every_number, first_fails_number}
use Rattle.conversion.specs.Rows.{are_fix}

-- another number than 22
abbrev pub is_other : ℕ → Bool
is_other n = not (eqb n 22)

module _ (c : Cause) (n : number_of c ≡ 22) where
  -- of tests with other numbers, none fails first with this one
  pub others-fail : (ts : Tests) → every_number is_other ts ≡ true → FirstFails ts c → ⊥
  others-fail ts o f =
      clash (eqb (number_of c) 22) (eq-eqb (number_of c) 22 n)
      (not-true (eqb (number_of c) 22) (first_fails_number is_other ts c o f))

  module _ (sheet : List ℕ) (Γ : Network) (fs : List (List ℕ)) where
    pub fix_of_fails : FirstFails (rule_tests sheet Γ fs) c → are_fix fs ≡ true
    unfolding rule_tests kind_tests ends_tests
    fix_of_fails (inl f) = absurd (omega (arith, ap number_of f.1, n))
    fix_of_fails (inr (five, inl f)) = absurd (omega (arith, ap number_of f.1, n))
    fix_of_fails (inr (five, inr (kind, inl f))) =
        and_both (eqb (length fs) 5) (is_retired (field 0 fs)) five (not-false (is_retired (field 0 fs)) f.0)
    fix_of_fails (inr (five, inr (kind, inr (stays, f)))) =
        let ends = ends_tests sheet Γ (field 1 fs) (field 2 fs) (field 4 fs) in
        absurd (others-fail (limit_tests (field 3 fs) ++ ends) refl f)

module _ (sheet : List ℕ) (Γ : Network) (fs : List (List ℕ)) where
  -- a `fix` is a kind as far as 3 goes, and stops there
  fails_of_fix : are_fix fs ≡ true → FirstFails (rule_tests sheet Γ fs) C.RetiredKind
  unfolding rule_tests kind_tests
  fails_of_fix e =
      let p = and-true (eqb (length fs) 5) (is_retired (field 0 fs)) e in
      inr (p.0, inr (rw (p.1, or-true (answers (kind_of (field 0 fs)))) refl, inl (rw p.1 refl, refl)))

  pub retired_iff : FirstFails (rule_tests sheet Γ fs) C.RetiredKind ↔ (are_fix fs ≡ true)
  retired_iff = (fix_of_fails C.RetiredKind refl sheet Γ fs, fails_of_fix)
