-- The tests of each line stand in checking order, which `turn_of` gives, so that the first to fail has the lowest turn
-- of those that fail; and their numbers are a line's. Assumes nothing.
use mathlib.Core.Path.{◌≡◌, refl, sym, ◌∙◌}
use mathlib.Core.Logic.{inl, inr}
use mathlib.Core.Bool.{Bool, true, ◌&&◌, ◌||◌}
use mathlib.Core.List.{List, [], ◌∷◌}
use Prim.Native.Nat.{ℕ, zero, suc, ◌≤◌}
use native.Mathlib.Omega.{arith}
use borrow.Author.Tests.{leb-true}
use lib.Dec.{leb}
use Rattle.prelude.specs.Checks.{FirstFails}
use Rattle.prelude.proofs.Tests.{clash, and-true}
use Rattle.refusal.specs.Refusal.{number_of, turn_of}
use Rattle.refusal.specs.declared.Cause.{Cause}
use Rattle.network.specs.declared.Network.{Network}
use Rattle.line.specs.Tests.{Tests, section_tests, event_tests, signal_tests, kind_tests, ends_tests, rule_tests}
use Rattle.line.specs.Tests.{letter_tests, reaction_tests, placed_tests, label_tests}
use Rattle.line.specs.Labelling.{whole_tests}
use Rattle.line.specs.declared.Section.TheVariants.{Events, Signals, Rules, Reactions, Cases}
use Rattle.sheet.specs.Place.{Expected, Horizon, Heading, Entry, NoMore, tests_at, place, tests}
use Rattle.sheet.specs.Fault.{Fails}

-- the tests stand in the order of their turns, none of which is below lo
abbrev pub are_in_order : ℕ → Tests → Bool
are_in_order lo [] = true
are_in_order lo (t ∷ ts) = leb lo (turn_of t.1) && are_in_order (turn_of t.1) ts

in_order : (lo : ℕ) (t : Bool × Cause) (ts : Tests) → are_in_order lo (t ∷ ts) ≡ true
    → (lo ≤ turn_of t.1) × (are_in_order (turn_of t.1) ts ≡ true)
in_order lo t ts o =
    let b = and-true (leb lo (turn_of t.1)) (are_in_order (turn_of t.1) ts) o in
    (leb-true lo (turn_of t.1) b.0, b.1)

fails_behind : (lo : ℕ) (ts : Tests) (d : Cause) → are_in_order lo ts ≡ true → Fails ts d → lo ≤ turn_of d
fails_behind lo [] d o g = absurd g
fails_behind lo (t ∷ ts) d o (inl g) = rw (← g.1) (in_order lo t ts o).0
fails_behind lo (t ∷ ts) d o (inr g) =
    let b = in_order lo t ts o in
    omega (arith, b.0, fails_behind (turn_of t.1) ts d b.1 g)

-- of such tests, the first to fail has the lowest turn of those that fail
pub first_fails_lowest : (lo : ℕ) (ts : Tests) (c d : Cause) → are_in_order lo ts ≡ true → FirstFails ts c → Fails ts d
    → turn_of c ≤ turn_of d
first_fails_lowest lo [] c d o f g = absurd f
first_fails_lowest lo (t ∷ ts) c d o (inl f) (inl g) = let e : c ≡ d = sym f.1 ∙ g.1 in rw e (omega arith)
first_fails_lowest lo (t ∷ ts) c d o (inl f) (inr g) =
    rw (← f.1) (fails_behind (turn_of t.1) ts d (in_order lo t ts o).1 g)
first_fails_lowest lo (t ∷ ts) c d o (inr f) (inl g) = clash t.0 f.0 g.0
first_fails_lowest lo (t ∷ ts) c d o (inr f) (inr g) =
    first_fails_lowest (turn_of t.1) ts c d (in_order lo t ts o).1 f.1 g

-- what each of the tests' numbers has, and so that of the first to fail
abbrev pub every_number : (ℕ → Bool) → Tests → Bool
every_number p [] = true
every_number p (t ∷ ts) = p (number_of t.1) && every_number p ts

pub first_fails_number : (p : ℕ → Bool) (ts : Tests) (c : Cause) → every_number p ts ≡ true → FirstFails ts c
    → p (number_of c) ≡ true
first_fails_number p [] c o f = absurd f
first_fails_number p (t ∷ ts) c o (inl f) = rw (← f.1) (and-true (p (number_of t.1)) (every_number p ts) o).0
first_fails_number p (t ∷ ts) c o (inr f) =
    first_fails_number p ts c (and-true (p (number_of t.1)) (every_number p ts) o).1 f.1

-- the numbers of a line's refusals: from 2 to 10, and from 20 to 22
abbrev pub is_of_line : ℕ → Bool
is_of_line n = leb 2 n && (leb n 10 || (leb 20 n && leb n 22))

abbrev pub are_of_line : Tests → Bool
are_of_line ts = every_number is_of_line ts

module _ (sheet : List ℕ) where
  expected-are : (d : Expected) (Γ : Network) (at : ℕ)
      → are_in_order 0 (tests_at sheet d Γ at) && are_of_line (tests_at sheet d Γ at) ≡ true
  unfolding section_tests event_tests signal_tests kind_tests ends_tests rule_tests letter_tests reaction_tests
      placed_tests label_tests whole_tests
  expected-are Horizon Γ at = refl
  expected-are (Heading s) Γ at = refl
  expected-are (Entry Events m) Γ at = refl
  expected-are (Entry Signals m) Γ at = refl
  expected-are (Entry Rules m) Γ at = refl
  expected-are (Entry Reactions m) Γ at = refl
  expected-are (Entry Cases zero) Γ at = refl
  expected-are (Entry Cases (suc m)) Γ at = refl
  expected-are NoMore Γ at = refl

  -- the tests of each line stand in the order of their turns, and their numbers are a line's
  pub tests-are : (k : ℕ) → (are_in_order 0 (tests sheet k) ≡ true) × (are_of_line (tests sheet k) ≡ true)
  tests-are k =
      let p = place sheet k in
      and-true (are_in_order 0 (tests sheet k)) (are_of_line (tests sheet k))
      (expected-are p.expected p.network p.at)
