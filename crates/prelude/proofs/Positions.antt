-- The code's `position` and `any` are searches by index; of a list's front they search the list below a bound.
-- Assumes nothing.
use mathlib.Core.Path.{◌≡◌, refl, ◌∙◌, ap}
use mathlib.Core.Bool.{Bool, true, false, ◌||◌, cond}
use mathlib.Core.Option.{Option}
use mathlib.Core.List.{List}
use Prim.Native.Nat.{ℕ, zero, suc, ◌+◌, ◌≤◌}
use native.Mathlib.Numerals.{add-one}
use native.Mathlib.Omega.{arith}
use lib.ListN.{length, get_or, take, drop, drop_of_length-le}
use lib.Seq.{drop-cons}
use Rattle.std.specs.Prelude.{Some}
use Rattle.std.specs.List.{position, position_from, list_any}
use Rattle.std.proofs.lemmas.List.{get_or-take, length-take-le}
use Rattle.std.proofs.lemmas.Iterator.Adapters.{position_from-zero}
use Rattle.prelude.specs.Search.{or_else, first_from, first_below, when, answers}
use Rattle.prelude.specs.Options.{option_of}
use Rattle.prelude.proofs.Search.{first_below-same}

module _ (test : ℕ → Bool) where
  -- the index of an element that passes
  abbrev passing : List ℕ → ℕ → Option ℕ
  passing xs j = when (test (get_or xs j 0)) j

  position_turn : (t : Bool) (i : ℕ) (o : Option ℕ)
      → cond t (Some i) (option_of o) ≡ option_of (or_else (when t i) o)
  position_turn true i o = refl
  position_turn false i o = refl

  position_from-is : (xs : List ℕ) (i n : ℕ) → i + n ≡ length xs
      → position_from test i (drop i xs) ≡ option_of (first_from i n (passing xs))
  position_from-is xs i zero h = rw (drop_of_length-le xs {i = i} (omega arith))
  position_from-is xs i (suc n) h =
      rw (drop-cons xs i 0 (omega arith), add-one, position_from-is xs (suc i) n (omega arith))
      (position_turn (test (get_or xs i 0)) i (first_from (suc i) n (passing xs)))

  any_turn : (t : Bool) (i : ℕ) (o : Option ℕ) → t || answers o ≡ answers (or_else (when t i) o)
  any_turn true i o = refl
  any_turn false i o = refl

  any-from : (xs : List ℕ) (i n : ℕ) → i + n ≡ length xs
      → list_any test (drop i xs) ≡ answers (first_from i n (passing xs))
  any-from xs i zero h = rw (drop_of_length-le xs {i = i} (omega arith))
  any-from xs i (suc n) h =
      rw (drop-cons xs i 0 (omega arith), any-from xs (suc i) n (omega arith))
      (any_turn (test (get_or xs i 0)) i (first_from (suc i) n (passing xs)))

  module _ (xs : List ℕ) where
    pub position-is : position test xs ≡ option_of (first_below (length xs) (passing xs))
    position-is = position_from-zero test xs ∙ position_from-is xs 0 (length xs) (omega arith)

    pub any-is : list_any test xs ≡ answers (first_below (length xs) (passing xs))
    any-is = any-from xs 0 (length xs) (omega arith)

  module _ (k : ℕ) (xs : List ℕ) (within : k ≤ length xs) where
    front : first_below (length (take k xs)) (passing (take k xs)) ≡ first_below k (passing xs)
    front =
        rw (length-take-le k xs within)
        (first_below-same (passing (take k xs)) (passing xs) k (λ j h. rw (get_or-take k xs j 0 h)))

    pub position_in-front : position test (take k xs) ≡ option_of (first_below k (passing xs))
    position_in-front = position-is (take k xs) ∙ ap option_of front

    pub any_in-front : list_any test (take k xs) ≡ answers (first_below k (passing xs))
    any_in-front = any-is (take k xs) ∙ ap answers front
