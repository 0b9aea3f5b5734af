-- One line of a former sheet and of the sheet that is read: where the line passes, the same is expected and defined
-- behind it, and the names of the events stay the same. Assumes nothing.
use mathlib.Core.Path.{◌≡◌, refl, sym, ◌∙◌, ap, ap₂}
use mathlib.Core.Logic.{inl, inr}
use mathlib.Core.Bool.{Bool, true, false}
use mathlib.Core.List.{List}
use Prim.Native.Nat.{ℕ, zero, suc}
use native.Mathlib.Omega.{arith}
use lib.Dec.{eqb}
use lib.ListN.{length, drop}
use Rattle.prelude.specs.Checks.{Hold}
use Rattle.prelude.proofs.Tests.{either, clash, false_of_not-true}
use Rattle.text.specs.Lines.{line_feed, up_to, fields, field, line_at}
use Rattle.text.proofs.Fields.{first_field}
use Rattle.network.specs.Build.{empty}
use Rattle.network.specs.declared.Network.{Network}
use Rattle.line.specs.Tests.{second_number, event_tests, signal_tests, reaction_tests, label_tests}
use Rattle.line.specs.Sections.{entry_of, added}
use Rattle.line.specs.declared.Section.{Section}
use Rattle.line.specs.declared.Section.TheVariants.{Events, Signals, Rules, Reactions, Cases}
use Rattle.line.specs.declared.entry.Entry as E
use Rattle.sheet.specs.Place.{Expected, Horizon, Heading, Entry, NoMore, entries, expected_after}
use Rattle.sheet.specs.Place.{defined_after}
use Rattle.conversion.specs.Rows.{are_fix}
use Rattle.conversion.specs.FormerFault.{former_tests_at}
use Rattle.conversion.proofs.LineRead.{max_fields, max_fields-fix, max_fields-other, LineRead}
use Rattle.conversion.proofs.FixFields.{fix-five, fix-is, Others}
use Rattle.conversion.proofs.NamesSame.{NamesSame, entry_same, event-name, part-same}

-- what a line counts is not its kind
second-same : (fs : List (List ℕ)) → second_number (max_fields fs) ≡ second_number fs
second-same fs =
    elim (either (are_fix fs)) [
      | inl e ↦
          ap second_number (max_fields-fix fs e) ∙ sym (ap second_number (fix-is fs e))
      | inr e ↦ ap second_number (max_fields-other fs e)
    ]

pub expected-same : (d : Expected) (more : Bool) (fs : List (List ℕ))
    → expected_after d more (max_fields fs) ≡ expected_after d more fs
expected-same Horizon more fs = refl
expected-same (Heading s) more fs = ap (entries s more) (second-same fs)
expected-same (Entry s m) more fs = refl
expected-same NoMore more fs = refl

-- a line of another section that passes is no `fix` row
counted-other : (n : ℕ) (fs : List (List ℕ)) → eqb 5 n ≡ false → eqb (length fs) n ≡ true → are_fix fs ≡ false
counted-other n fs o e =
    false_of_not-true (are_fix fs)
    (λ q. clash (eqb 5 n) (sym (ap (λ (m : ℕ). eqb m n) (fix-five fs q)) ∙ e) o)

passes-other : (sheet : List ℕ) (s : Section) (m : ℕ) (Γ : Network) (at : ℕ) → Others s
    → Hold (former_tests_at sheet (Entry s m) Γ at)
    → are_fix (fields (line_at sheet at)) ≡ false
unfolding event_tests signal_tests reaction_tests label_tests
passes-other sheet Events m Γ at o h = counted-other 1 (fields (line_at sheet at)) refl h.1.0
passes-other sheet Signals m Γ at o h = counted-other 2 (fields (line_at sheet at)) refl h.1.0
passes-other sheet Rules m Γ at o h = absurd o
passes-other sheet Reactions m Γ at o h = counted-other 2 (fields (line_at sheet at)) refl h.1.0
passes-other sheet Cases zero Γ at o h = counted-other 2 (fields (line_at sheet at)) refl h.1.0
passes-other sheet Cases (suc m) Γ at o h = counted-other 2 (fields (line_at sheet at)) refl h.1.0

-- what a line holds, read with `fix` as `max`
rule-read : (other : List ℕ) (Γ : Network) (fs : List (List ℕ))
    → entry_of other Rules Γ (max_fields fs) ≡ entry_of other Rules Γ fs
rule-read other Γ fs =
    elim (either (are_fix fs)) [
      | inl e ↦
          ap (entry_of other Rules Γ) (max_fields-fix fs e) ∙ sym (ap (entry_of other Rules Γ) (fix-is fs e))
      | inr e ↦ ap (entry_of other Rules Γ) (max_fields-other fs e)
    ]

first-long : (fs : List (List ℕ)) → length (field 0 (max_fields fs)) ≡ length (field 0 fs)
first-long fs =
    elim (either (are_fix fs)) [
      | inl e ↦
          ap (λ (xs : List (List ℕ)). length (field 0 xs)) (max_fields-fix fs e)
          ∙ sym (ap (λ (xs : List (List ℕ)). length (field 0 xs)) (fix-is fs e))
      | inr e ↦ ap (λ (xs : List (List ℕ)). length (field 0 xs)) (max_fields-other fs e)
    ]

-- one line on, where the sheets are alike so far
module _ (sheet other r : List ℕ) (Γ : Network) (at : ℕ) (n : NamesSame sheet other Γ)
    (w : LineRead (drop at sheet) (drop at other) r) where
  abbrev fs : List (List ℕ)
  fs = fields (line_at sheet at)

  other_read : (s : Section) (m : ℕ) → Others s → Hold (former_tests_at sheet (Entry s m) Γ at)
      → entry_of other s Γ (max_fields fs) ≡ entry_of sheet s Γ fs
  other_read s m o h =
      ap (entry_of other s Γ) (max_fields-other fs (passes-other sheet s m Γ at o h)) ∙ sym (entry_same n s fs)

  entry-read : (s : Section) (m : ℕ) → Hold (former_tests_at sheet (Entry s m) Γ at)
      → entry_of other s Γ (max_fields fs) ≡ entry_of sheet s Γ fs
  entry-read Rules m h = rule-read other Γ fs ∙ sym (entry_same n Rules fs)
  entry-read Events m h = refl
  entry-read Signals m h = other_read Signals m tt h
  entry-read Reactions m h = other_read Reactions m tt h
  entry-read Cases m h = other_read Cases m tt h

  pub defined-same : (d : Expected) → Hold (former_tests_at sheet d Γ at)
      → defined_after other d Γ at (max_fields fs) ≡ defined_after sheet d Γ at fs
  defined-same Horizon h = ap empty (second-same fs)
  defined-same (Heading s) h = refl
  defined-same (Entry s m) h =
      ap₂ (λ (e : E.Entry) (l : ℕ). added e Γ at l) (entry-read s m h) (first-long fs)
  defined-same NoMore h = refl

  -- the names so far, and that of an event's line
  pub named-same : (d : Expected) → Hold (former_tests_at sheet d Γ at)
      → NamesSame sheet other (defined_after sheet d Γ at fs)
  named-same Horizon h = record { sized = refl; name = λ u l. absurd (omega arith) }
  named-same (Heading s) h = n
  named-same (Entry Events m) h =
      let x = up_to line_feed (drop at sheet) in
      event-name n at (length (field 0 fs))
      (part-same (drop at sheet) (drop at other) (length (field 0 fs)) (first_field x)
      (w.same (passes-other sheet Events m Γ at tt h)))
  named-same (Entry Signals m) h = record { sized = n.sized; name = n.name }
  named-same (Entry Rules m) h = record { sized = n.sized; name = n.name }
  named-same (Entry Reactions m) h = record { sized = n.sized; name = n.name }
  named-same (Entry Cases m) h = record { sized = n.sized; name = n.name }
  named-same NoMore h = n
