-- Laws of the refusal of a line of the section `cases`, test by test, as its reader tries them; and how the tests of
-- a line by itself stand before those of the whole sheet. Assumes nothing.
use mathlib.Core.Path.{◌≡◌}
use mathlib.Core.Bool.{Bool, true, false, ◌&&◌}
use mathlib.Core.Option.{none, some}
use mathlib.Core.List.{List, [], ◌∷◌}
use Prim.Native.Nat.{ℕ, zero, suc, ◌<◌}
use borrow.Author.Tests.{eq-eqb, ne_eqb}
use lib.ListN.{length, get_or, take, drop}
use Rattle.prelude.specs.Checks.{first_failing_lem}
use Rattle.prelude.specs.Bytes.{is_in, same}
use Rattle.prelude.proofs.Search.{some-not-none}
use Rattle.text.specs.Lines.{line_feed, up_to, fields, field}
use Rattle.refusal.specs.declared.Cause.{Cause}
use Rattle.refusal.specs.declared.Cause.TheVariants as C
use Rattle.network.specs.Build.{is_labelled}
use Rattle.network.specs.declared.Network.{Network}
use Rattle.names.specs.Names.{is_name_lem, is_label_lem}
use Rattle.names.proofs.Finds.{finds}
use Rattle.line.specs.Tests.{Tests, line_tests, event_of, letters_tests, placed_tests, label_tests}
use Rattle.line.specs.Labelling.{whole_tests}
use Rattle.line.specs.Sections.{own_tests, tests_of, with_line}
use Rattle.line.specs.declared.Section.{Section}
use Rattle.line.specs.declared.Section.TheVariants.{Events, Signals, Rules, Reactions, Cases}
use Rattle.line.proofs.Checks.{fails_before, fails_behind}

-- an event that is found is one of the sheet's
pub event-below : (sheet : List ℕ) (Γ : Network) (f : List ℕ) (u : ℕ) → event_of sheet Γ f ≡ some u → u < Γ.events
event-below sheet Γ f u e =
    (finds (λ v. same (take (get_or Γ.lengths v 0) (drop (get_or Γ.starts v 0) sheet)) f) Γ.events u e).index_lt

module _ (sheet : List ℕ) (Γ : Network) (fs : List (List ℕ)) where
  pub label-count : (length fs ≡ 2 → ⊥) → first_failing_lem (label_tests sheet Γ fs) ≡ some C.WrongFields
  unfolding label_tests
  label-count n = rw (ne_eqb (length fs) 2 n)

  module _ (n : length fs ≡ 2) where
    pub label_ill : is_name_lem (field 0 fs) && is_label_lem (field 1 fs) ≡ false
        → first_failing_lem (label_tests sheet Γ fs) ≡ some C.IllFormedName
    unfolding label_tests placed_tests
    label_ill e = rw (eq-eqb (length fs) 2 n, e)

    module _ (e : is_name_lem (field 0 fs) && is_label_lem (field 1 fs) ≡ true) where
      pub label-nowhere : event_of sheet Γ (field 0 fs) ≡ none
          → first_failing_lem (label_tests sheet Γ fs) ≡ some C.Undefined
      unfolding label_tests placed_tests
      label-nowhere p = rw (eq-eqb (length fs) 2 n, e, p)

      module _ (u : ℕ) (p : event_of sheet Γ (field 0 fs) ≡ some u) where
        pub label-second : is_labelled Γ u ≡ true → first_failing_lem (label_tests sheet Γ fs) ≡ some C.Duplicate
        unfolding label_tests placed_tests
        label-second l = rw (eq-eqb (length fs) 2 n, e, p, l)

        pub label-letters : is_labelled Γ u ≡ false → first_failing_lem (label_tests sheet Γ fs)
            ≡ first_failing_lem (letters_tests Γ (field 1 fs))
        unfolding label_tests placed_tests
        label-letters l = rw (eq-eqb (length fs) 2 n, e, p, l)

-- the tests of a line by itself, and those that are made behind them
module _ (sheet : List ℕ) (Γ : Network) where
  abbrev pub later_tests : Section → ℕ → List (List ℕ) → Tests
  later_tests Events m fs = []
  later_tests Signals m fs = []
  later_tests Rules m fs = []
  later_tests Reactions m fs = []
  later_tests Cases zero fs = whole_tests (with_line sheet Cases Γ 0 fs)
  later_tests Cases (suc m) fs = []

  own_fails : (s : Section) (m : ℕ) (fs : List (List ℕ)) (c : Cause) → first_failing_lem (own_tests sheet s Γ fs)
      ≡ some c
      → first_failing_lem (tests_of sheet s m Γ fs) ≡ some c
  own_fails Events m fs c e = e
  own_fails Signals m fs c e = e
  own_fails Rules m fs c e = e
  own_fails Reactions m fs c e = e
  own_fails Cases zero fs c e = fails_before (label_tests sheet Γ fs) (later_tests Cases zero fs) c e
  own_fails Cases (suc m) fs c e = e

  own_holds : (s : Section) (m : ℕ) (fs : List (List ℕ)) → first_failing_lem (own_tests sheet s Γ fs) ≡ none
      → first_failing_lem (tests_of sheet s m Γ fs) ≡ first_failing_lem (later_tests s m fs)
  own_holds Events m fs e = e
  own_holds Signals m fs e = e
  own_holds Rules m fs e = e
  own_holds Reactions m fs e = e
  own_holds Cases zero fs e = fails_behind (label_tests sheet Γ fs) (later_tests Cases zero fs) e
  own_holds Cases (suc m) fs e = e

  -- so of the line that begins here
  module _ (rest : List ℕ) (s : Section) (m : ℕ) where
    abbrev fs : List (List ℕ)
    fs = fields (up_to line_feed rest)

    pub line_fails : (c : Cause) → first_failing_lem (line_tests rest (own_tests sheet s Γ)) ≡ some c
        → first_failing_lem (line_tests rest (tests_of sheet s m Γ)) ≡ some c
    line_fails c e = by_end (is_in line_feed rest) e
      where
        by_end : (b : Bool) → first_failing_lem ((b, C.MissingLine) ∷ own_tests sheet s Γ fs) ≡ some c
            → first_failing_lem ((b, C.MissingLine) ∷ tests_of sheet s m Γ fs) ≡ some c
        by_end true e = own_fails s m fs c e
        by_end false e = e

    pub line-holds : first_failing_lem (line_tests rest (own_tests sheet s Γ)) ≡ none
        → first_failing_lem (line_tests rest (tests_of sheet s m Γ)) ≡ first_failing_lem (later_tests s m fs)
    line-holds e = by_end (is_in line_feed rest) e
      where
        by_end : (b : Bool) → first_failing_lem ((b, C.MissingLine) ∷ own_tests sheet s Γ fs) ≡ none
            → first_failing_lem ((b, C.MissingLine) ∷ tests_of sheet s m Γ fs) ≡ first_failing_lem (later_tests s m fs)
        by_end true e = own_holds s m fs e
        by_end false e = some-not-none C.MissingLine e
