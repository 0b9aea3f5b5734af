-- Laws of a reaction's refusal, test by test, as its reader tries them. Assumes nothing.
use mathlib.Core.Path.{◌≡◌, ◌∙◌}
use mathlib.Core.Bool.{true, false, ◌&&◌, not}
use mathlib.Core.Option.{none, some}
use mathlib.Core.List.{List}
use Prim.Native.Nat.{ℕ, ◌≤◌, ◌<◌}
use borrow.Author.Tests.{eq-eqb, ne_eqb, leb-true, lt-ltb, le-ltb}
use lib.Dec.{eqb, leb}
use lib.ListN.{length, get_or}
use Rattle.prelude.specs.Checks.{first_failing_lem}
use Rattle.prelude.proofs.Tests.{and-true}
use Rattle.text.specs.Lines.{field}
use Rattle.text.specs.Number.{in_range, is_negative, magnitude}
use Rattle.refusal.specs.declared.Cause.{Cause}
use Rattle.refusal.specs.declared.Cause.TheVariants as C
use Rattle.network.specs.Limits as L
use Rattle.network.specs.Build.{reaction_stated}
use Rattle.network.specs.declared.Network.{Network}
use Rattle.names.specs.Names.{is_one_letter_lem}
use Rattle.names.specs.Defined.{place_of}
use Rattle.names.proofs.Finds.{finds}
use Rattle.line.specs.Tests.{Tests, count_tests, signal_of, letter_tests, reaction_tests}
use Rattle.line.proofs.Checks.{all_hold, fails_before, fails_behind}

-- a number that is in its range
pub record Within (lo hi n : ℕ) : Type 0 where
  pub least : lo ≤ n
  pub most : n ≤ hi

pub within : (lo hi : ℕ) (f : List ℕ) → in_range lo hi f ≡ true → Within lo hi (magnitude f)
unfolding in_range
within lo hi f e =
    let sign = and-true (not (is_negative f)) (leb lo (magnitude f) && leb (magnitude f) hi) e in
    let ends = and-true (leb lo (magnitude f)) (leb (magnitude f) hi) sign.1 in
    record { least = leb-true lo (magnitude f) ends.0; most = leb-true (magnitude f) hi ends.1 }

pub count-within : (lo hi : ℕ) (f : List ℕ) → first_failing_lem (count_tests lo hi f) ≡ none
    → Within lo hi (magnitude f)
count-within lo hi f e = within lo hi f (all_hold (count_tests lo hi f) e 1)

-- a signal that is found is one of the network's
pub signal-below : (Γ : Network) (b p : ℕ) → place_of Γ.signals Γ.letters b ≡ some p → p < Γ.signals
signal-below Γ b p e = (finds (λ q. eqb (get_or Γ.letters q 0) b) Γ.signals p e).index_lt

module _ (Γ : Network) (fs : List (List ℕ)) where
  abbrev minutes : Tests
  minutes = count_tests L.fastest L.slowest (field 1 fs)

  abbrev letter : Tests
  letter = letter_tests Γ (field 0 fs)

  pub reaction-count : (length fs ≡ 2 → ⊥) → first_failing_lem (reaction_tests Γ fs) ≡ some C.WrongFields
  unfolding reaction_tests
  reaction-count n = rw (ne_eqb (length fs) 2 n)

  module _ (n : length fs ≡ 2) where
    pub reaction-minutes : (c : Cause) → first_failing_lem minutes ≡ some c
        → first_failing_lem (reaction_tests Γ fs) ≡ some c
    unfolding reaction_tests
    reaction-minutes c e = rw (eq-eqb (length fs) 2 n) (fails_before minutes letter c e)

    module _ (e : first_failing_lem minutes ≡ none) where
      reaction-letter : first_failing_lem (reaction_tests Γ fs) ≡ first_failing_lem letter
      unfolding reaction_tests
      reaction-letter = rw (eq-eqb (length fs) 2 n) (fails_behind minutes letter e)

      pub reaction_ill : is_one_letter_lem (field 0 fs) ≡ false
          → first_failing_lem (reaction_tests Γ fs) ≡ some C.IllFormedName
      unfolding letter_tests
      reaction_ill h = reaction-letter ∙ rw h

      module _ (h : is_one_letter_lem (field 0 fs) ≡ true) where
        pub reaction-unknown : signal_of Γ (field 0 fs) ≡ none
            → first_failing_lem (reaction_tests Γ fs) ≡ some C.Undefined
        unfolding letter_tests
        reaction-unknown d = reaction-letter ∙ rw (h, d)

        module _ (p : ℕ) (known : signal_of Γ (field 0 fs) ≡ some p) where
          pub reaction-twice : 0 < reaction_stated Γ p
              → first_failing_lem (reaction_tests Γ fs) ≡ some C.Duplicate
          unfolding letter_tests
          reaction-twice s = reaction-letter ∙ rw (h, known, lt-ltb 0 (reaction_stated Γ p) s)

          pub reaction-passes : reaction_stated Γ p ≤ 0 → first_failing_lem (reaction_tests Γ fs) ≡ none
          unfolding letter_tests
          reaction-passes s = reaction-letter ∙ rw (h, known, le-ltb 0 (reaction_stated Γ p) s)
