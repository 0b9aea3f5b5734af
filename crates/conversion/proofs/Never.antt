-- A sheet without `fix` rows is never refused with 22 (`never-retired`): no line of it fails that test. So no former
-- sheet is, as it is read (`NoFix`). Assumes nothing.
use mathlib.Core.Path.{◌≡◌, refl, sym, ◌∙◌, ap}
use mathlib.Core.Logic.{inl, inr}
use mathlib.Core.Bool.{false}
use mathlib.Core.List.{List, [], ◌∷◌}
use Prim.Native.Nat.{ℕ, zero, suc, ◌≤◌}
use native.Mathlib.Omega.{arith}
use lib.ListN.{length, drop}
use Rattle.prelude.specs.Checks.{FirstFails}
use Rattle.prelude.proofs.Tests.{clash}
use Rattle.text.specs.Lines.{line_feed, up_to, fields}
use Rattle.text.proofs.Lines.{up_to_lt_of_is_in}
use Rattle.refusal.specs.Refusal.{number_of}
use Rattle.refusal.specs.declared.Cause.{Cause}
use Rattle.refusal.specs.declared.Refusal.{Refusal}
use Rattle.network.specs.declared.Network.{Network}
use Rattle.line.specs.Tests.{section_tests, event_tests, signal_tests, ends_tests, letter_tests}
use Rattle.line.specs.Tests.{reaction_tests, placed_tests, label_tests}
use Rattle.line.specs.Labelling.{whole_tests}
use Rattle.line.specs.declared.Section.TheVariants.{Events, Signals, Rules, Reactions, Cases}
use Rattle.sheet.specs.Place.{Expected, Horizon, Heading, Entry, NoMore, tests_at, place}
use Rattle.sheet.specs.Fault.{Fault}
use Rattle.conversion.specs.Rows.{lines_of, first_line, are_fix, is_fix_lem, fixes_in, fixes}
use Rattle.conversion.specs.FormerRules.{read_as_max_lem}
use Rattle.conversion.proofs.Lines.{up_to_first, behind, lines_of_first}
use Rattle.conversion.proofs.LineRead.{after-behind}
use Rattle.conversion.proofs.Fixes.{none_cons}
use Rattle.conversion.proofs.NoFix.{fixes-read_as_max}
use Rattle.conversion.proofs.Retired.{others-fail, fix_of_fails}

-- of bytes without `fix` rows neither the first line is one, nor is one behind it
none_first : (s : List ℕ) → 1 ≤ length s → fixes s ≡ 0 → (is_fix_lem (first_line s) ≡ false) × (fixes (behind s) ≡ 0)
none_first s h e = none_cons (first_line s) (lines_of (behind s)) (sym (ap fixes_in (lines_of_first s h)) ∙ e)

none_behind : (s : List ℕ) → fixes s ≡ 0 → fixes (behind s) ≡ 0
none_behind [] e = refl
none_behind (b ∷ s) e = (none_first (b ∷ s) (omega arith) e).1

-- so it is at the beginning of each line
none_at : (s : List ℕ) → fixes s ≡ 0 → (k : ℕ) → fixes (drop (place s k).at s) ≡ 0
none_at s none zero = none
none_at s none (suc k) =
    let at = (place s k).at in
    ap fixes (after-behind s at) ∙ none_behind (drop at s) (none_at s none k)

module _ (s : List ℕ) (Γ : Network) (at : ℕ) (none : fixes (drop at s) ≡ 0) (c : Cause) (n : number_of c ≡ 22) where
  -- the line of a rule: it has its line feed, so it is a line, and no `fix` row
  rule_stays : (m : ℕ) → FirstFails (tests_at s (Entry Rules m) Γ at) c → ⊥
  unfolding is_fix_lem
  rule_stays m (inl f) = omega (arith, ap number_of f.1, n)
  rule_stays m (inr (ends, f)) =
      let t = drop at s in
      let some : 1 ≤ length t = omega (arith, up_to_lt_of_is_in line_feed t ends) in
      let fs = fields (up_to line_feed t) in
      clash (are_fix fs) (fix_of_fails c n s Γ fs f)
      (ap (λ (l : List ℕ). are_fix (fields l)) (sym (up_to_first t)) ∙ (none_first t some none).0)

  -- no other line has a test with 22
  stays : (d : Expected) → FirstFails (tests_at s d Γ at) c → ⊥
  unfolding section_tests event_tests signal_tests ends_tests letter_tests reaction_tests placed_tests label_tests
      whole_tests
  stays Horizon = others-fail c n (tests_at s Horizon Γ at) refl
  stays (Heading x) = others-fail c n (tests_at s (Heading x) Γ at) refl
  stays (Entry Events m) = others-fail c n (tests_at s (Entry Events m) Γ at) refl
  stays (Entry Signals m) = others-fail c n (tests_at s (Entry Signals m) Γ at) refl
  stays (Entry Rules m) = rule_stays m
  stays (Entry Reactions m) = others-fail c n (tests_at s (Entry Reactions m) Γ at) refl
  stays (Entry Cases zero) = others-fail c n (tests_at s (Entry Cases zero) Γ at) refl
  stays (Entry Cases (suc m)) = others-fail c n (tests_at s (Entry Cases (suc m)) Γ at) refl
  stays NoMore = others-fail c n (tests_at s NoMore Γ at) refl

pub never-retired : (s : List ℕ) → fixes s ≡ 0 → (r : Refusal) → Fault s r → number_of r.cause ≡ 22 → ⊥
never-retired s none r (inl f) n = omega (arith, ap (λ (x : Refusal). number_of x.cause) f.1, n)
never-retired s none r (inr f) n =
    let p = place s f.1.above in
    stays s p.network p.at (none_at s none f.1.above) r.cause n p.expected f.1.fault

pub former-never-retired : (sheet : List ℕ) (r : Refusal) → Fault (read_as_max_lem sheet) r → number_of r.cause ≡ 22 → ⊥
former-never-retired sheet = never-retired (read_as_max_lem sheet) (fixes-read_as_max sheet)
