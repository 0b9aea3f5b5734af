-- The fields of a `fix` row: five, of which the first is that word, also as they are read; where another count of
-- fields is asked, the test of the count fails (`by_fix`). Assumes nothing.
use mathlib.Core.Path.{◌≡◌, refl, sym, ◌∙◌, ap}
use mathlib.Core.Logic.{inl, inr}
use mathlib.Core.Bool.{true}
use mathlib.Core.Option.{some}
use mathlib.Core.List.{List, [], ◌∷◌}
use Prim.Native.Nat.{ℕ, zero, suc}
use native.Mathlib.Omega.{arith}
use borrow.Author.Tests.{eqb-true}
use lib.Dec.{eqb}
use lib.ListN.{length, drop, length-drop}
use Rattle.prelude.specs.Bytes.{ascii}
use Rattle.prelude.specs.Checks.{first_failing_lem}
use Rattle.prelude.proofs.Bytes.{same_true}
use Rattle.prelude.proofs.Tests.{either, and-true, zero-is-one}
use Rattle.text.specs.Lines.{field}
use Rattle.refusal.specs.declared.Cause.TheVariants as C
use Rattle.network.specs.declared.Network.{Network}
use Rattle.line.specs.Tests.{Tests, is_retired, section_tests, event_tests, signal_tests}
use Rattle.line.specs.Tests.{reaction_tests, label_tests}
use Rattle.line.specs.Sections.{tests_of}
use Rattle.line.specs.declared.Section.{Section}
use Rattle.line.specs.declared.Section.TheVariants.{Events, Signals, Rules, Reactions, Cases}
use Rattle.conversion.specs.Rows.{are_fix}
use Rattle.conversion.proofs.LineRead.{max_fields, max_fields-fix, max_fields-other}

-- the fields of a `fix` row
pub fix-five : (fs : List (List ℕ)) → are_fix fs ≡ true → length fs ≡ 5
fix-five fs e = eqb-true (length fs) 5 (and-true (eqb (length fs) 5) (is_retired (field 0 fs)) e).0

pub fix-is : (fs : List (List ℕ)) → are_fix fs ≡ true → fs ≡ ascii "fix" ∷ drop 1 fs
fix-is [] e = zero-is-one cc
fix-is (f ∷ fs) e =
    ap (λ (f : List ℕ). f ∷ fs)
    (same_true f (ascii "fix") (and-true (eqb (length (f ∷ fs)) 5) (is_retired f) e).1)

pub max-five : (fs : List (List ℕ)) → are_fix fs ≡ true → length (max_fields fs) ≡ 5
max-five fs e = ap length (max_fields-fix fs e) ∙ omega (arith, fix-five fs e, length-drop 1 fs)

-- the heading of a section, and the lines of other sections than the rules'
pub heading-fails : (word : List ℕ) (lo hi : ℕ) (fs : List (List ℕ)) → length fs ≡ 5
    → first_failing_lem (section_tests word lo hi fs) ≡ some C.WrongFields
unfolding section_tests
heading-fails word lo hi fs e = rw e refl

-- the section is not that of the rules
abbrev pub Others : Section → Type 0
Others Events = Unit {0}
Others Signals = Unit {0}
Others Rules = ⊥
Others Reactions = Unit {0}
Others Cases = Unit {0}

pub entry-fails : (sheet : List ℕ) (s : Section) (m : ℕ) (Γ : Network) (fs : List (List ℕ)) → Others s → length fs ≡ 5
    → first_failing_lem (tests_of sheet s m Γ fs) ≡ some C.WrongFields
unfolding event_tests signal_tests reaction_tests label_tests
entry-fails sheet Events m Γ fs o e = rw e refl
entry-fails sheet Signals m Γ fs o e = rw e refl
entry-fails sheet Rules m Γ fs o e = absurd o
entry-fails sheet Reactions m Γ fs o e = rw e refl
entry-fails sheet Cases zero Γ fs o e = rw e refl
entry-fails sheet Cases (suc m) Γ fs o e = rw e refl

-- by whether the line is a `fix` row
pub by_fix : (f g : List (List ℕ) → Tests) (fs : List (List ℕ)) → f fs ≡ g fs
    → ((xs : List (List ℕ)) → length xs ≡ 5 → first_failing_lem (f xs) ≡ some C.WrongFields)
    → ((xs : List (List ℕ)) → length xs ≡ 5 → first_failing_lem (g xs) ≡ some C.WrongFields)
    → first_failing_lem (f fs) ≡ first_failing_lem (g (max_fields fs))
by_fix f g fs alike p q =
    elim (either (are_fix fs)) [
      | inl e ↦ p fs (fix-five fs e) ∙ sym (q (max_fields fs) (max-five fs e))
      | inr e ↦ ap first_failing_lem (alike ∙ ap g (sym (max_fields-other fs e)))
    ]
