-- Laws of a line's refusal, test by test, as the readers of a line try them: what an answer says, a section's heading,
-- an event and a signal. Assumes nothing.
use mathlib.Core.Path.{◌≡◌, refl, sym, ◌∙◌, ap}
use mathlib.Core.Bool.{Bool, true, false, ◌&&◌, and-false}
use mathlib.Core.Option.{Option, none, some}
use mathlib.Core.List.{List}
use Prim.Native.Nat.{ℕ}
use borrow.Author.Tests.{eq-eqb, ne_eqb}
use lib.ListN.{length}
use Rattle.std.specs.Prelude.{Result, Ok, Err, IsErrAnd, is_some, ok_or}
use Rattle.std.specs.Prelude as P
use Rattle.prelude.specs.Options.{option_of}
use Rattle.prelude.proofs.Options.{is_some-option_of, option_of-none}
use Rattle.prelude.specs.Search.{answers}
use Rattle.prelude.specs.Checks.{first_failing_lem}
use Rattle.prelude.specs.Bytes.{same}
use Rattle.prelude.proofs.Tests.{zero-is-one}
use Rattle.text.specs.Lines.{fields, field}
use Rattle.refusal.specs.declared.Cause.{Cause}
use Rattle.refusal.specs.declared.Cause.TheVariants as C
use Rattle.network.specs.declared.Network.{Network}
use Rattle.names.specs.Names.{is_name_lem, is_one_letter_lem}
use Rattle.names.specs.Defined.{gives_signal_lem}
use Rattle.line.specs.Tests.{count_tests, letters_tests, section_tests, event_of, signal_of, event_tests, signal_tests}
use Rattle.line.specs.Answers.{answer}

-- an answer is the cause of a refusal, or what is read where none was found
module _ {A : Type 0} (o : Option Cause) (x : A) where
  pub answer-err : (c : Cause) → answer o x ≡ Err c → o ≡ some c
  answer-err c e = by-cause o e
    where
      by-cause : (o : Option Cause) → answer o x ≡ Err c → o ≡ some c
      by-cause none e = zero-is-one cc
      by-cause (some d) e = cc

  pub answer-ok : (y : A) → answer o x ≡ Ok y → (o ≡ none) × (x ≡ y)
  answer-ok y e = by-cause o e
    where
      by-cause : (o : Option Cause) → answer o x ≡ Ok y → (o ≡ none) × (x ≡ y)
      by-cause none e = (refl, cc)
      by-cause (some d) e = zero-is-one cc

-- what the exit of a `?` returns; and behind `ok_or`, that nothing was found
pub exits : {A E : Type 0} (r : Result A E) (d : E) → IsErrAnd r (λ e. e ≡ d) → r ≡ Err d
exits (Ok x) d h = absurd h
exits (Err e) d h = ap Err h

pub exits-none : {A T : Type 0} (r : Result A Cause) (d c : Cause) (o : P.Option T) → IsErrAnd r (λ e. e ≡ d)
    → ◌≡◌ {A = Result T Cause} (Err d) (ok_or o c) → (o ≡ P.None) × (r ≡ Err c)
exits-none r d c P.None h e = let same : d ≡ c = cc in (refl, exits r d h ∙ ap Err same)
exits-none r d c (P.Some x) h e = zero-is-one cc

pub exits_without : {A T : Type 0} (r : Result A Cause) (d c : Cause) (o : Option T) → IsErrAnd r (λ e. e ≡ d)
    → ◌≡◌ {A = Result T Cause} (Err d) (ok_or (option_of o) c) → (o ≡ none) × (r ≡ Err c)
exits_without r d c o h e = let w = exits-none r d c (option_of o) h e in (option_of-none o w.0, w.1)

-- whether anything was found
pub found-is : {T : Type 0} (o : Option T) (r : P.Option T) (b v : Bool) → r ≡ option_of o → b ≡ is_some r → b ≡ v
    → answers o ≡ v
found-is o r b v e f g = sym (is_some-option_of o) ∙ ap is_some (sym e) ∙ sym f ∙ g

-- a field of the same line
pub of_line : {l m f : List ℕ} (k : ℕ) → f ≡ field k (fields l) → l ≡ m → f ≡ field k (fields m)
of_line k e h = e ∙ ap (λ (g : List ℕ). field k (fields g)) h

-- the letters of the same label
pub moved-letters : (Γ : Network) (f g : List ℕ) {o : Option Cause} → f ≡ g → first_failing_lem (letters_tests Γ f) ≡ o
    → first_failing_lem (letters_tests Γ g) ≡ o
moved-letters Γ f g e h = ap (λ (l : List ℕ). first_failing_lem (letters_tests Γ l)) (sym e) ∙ h

-- a section's line
module _ (word : List ℕ) (lo hi : ℕ) (fs : List (List ℕ)) where
  pub word_count : (length fs ≡ 2 → ⊥) → first_failing_lem (section_tests word lo hi fs) ≡ some C.WrongFields
  unfolding section_tests
  word_count n = rw (ne_eqb (length fs) 2 n)

  pub word-other : same (field 0 fs) word ≡ false → first_failing_lem (section_tests word lo hi fs) ≡ some C.WrongFields
  unfolding section_tests
  word-other e = rw (e, and-false)

  pub word-passes : length fs ≡ 2 → same (field 0 fs) word ≡ true
      → first_failing_lem (section_tests word lo hi fs) ≡ first_failing_lem (count_tests lo hi (field 1 fs))
  unfolding section_tests
  word-passes n e = rw (eq-eqb (length fs) 2 n, e)

module _ (sheet : List ℕ) (Γ : Network) (fs : List (List ℕ)) where
  -- an event
  pub event-count : (length fs ≡ 1 → ⊥) → first_failing_lem (event_tests sheet Γ fs) ≡ some C.WrongFields
  unfolding event_tests
  event-count n = rw (ne_eqb (length fs) 1 n)

  module _ (n : length fs ≡ 1) where
    pub event_ill : is_name_lem (field 0 fs) ≡ false → first_failing_lem (event_tests sheet Γ fs)
        ≡ some C.IllFormedName
    unfolding event_tests
    event_ill e = rw (eq-eqb (length fs) 1 n, e)

    module _ (e : is_name_lem (field 0 fs) ≡ true) where
      pub event-twice : answers (event_of sheet Γ (field 0 fs)) ≡ true
          → first_failing_lem (event_tests sheet Γ fs) ≡ some C.Duplicate
      unfolding event_tests
      event-twice d = rw (eq-eqb (length fs) 1 n, e, d)

      pub event-passes : answers (event_of sheet Γ (field 0 fs)) ≡ false
          → first_failing_lem (event_tests sheet Γ fs) ≡ none
      unfolding event_tests
      event-passes d = rw (eq-eqb (length fs) 1 n, e, d)

  -- a signal
  pub signal-count : (length fs ≡ 2 → ⊥) → first_failing_lem (signal_tests sheet Γ fs) ≡ some C.WrongFields
  unfolding signal_tests
  signal-count n = rw (ne_eqb (length fs) 2 n)

  module _ (n : length fs ≡ 2) where
    pub signal_ill : is_one_letter_lem (field 0 fs) && is_name_lem (field 1 fs) ≡ false
        → first_failing_lem (signal_tests sheet Γ fs) ≡ some C.IllFormedName
    unfolding signal_tests
    signal_ill e = rw (eq-eqb (length fs) 2 n, e)

    module _ (e : is_one_letter_lem (field 0 fs) && is_name_lem (field 1 fs) ≡ true) where
      pub signal-twice : answers (signal_of Γ (field 0 fs)) ≡ true
          → first_failing_lem (signal_tests sheet Γ fs) ≡ some C.Duplicate
      unfolding signal_tests
      signal-twice d = rw (eq-eqb (length fs) 2 n, e, d)

      module _ (f : answers (signal_of Γ (field 0 fs)) ≡ false) where
        pub signal-unknown : event_of sheet Γ (field 1 fs) ≡ none
            → first_failing_lem (signal_tests sheet Γ fs) ≡ some C.Undefined
        unfolding signal_tests
        signal-unknown d = rw (eq-eqb (length fs) 2 n, e, f, d)

        module _ (u : ℕ) (known : event_of sheet Γ (field 1 fs) ≡ some u) where
          pub signal-given : gives_signal_lem Γ.signals Γ.observations u ≡ true
              → first_failing_lem (signal_tests sheet Γ fs) ≡ some C.Duplicate
          unfolding signal_tests
          signal-given g = rw (eq-eqb (length fs) 2 n, e, f, known, g)

          pub signal-passes : gives_signal_lem Γ.signals Γ.observations u ≡ false
              → first_failing_lem (signal_tests sheet Γ fs) ≡ none
          unfolding signal_tests
          signal-passes g = rw (eq-eqb (length fs) 2 n, e, f, known, g)
