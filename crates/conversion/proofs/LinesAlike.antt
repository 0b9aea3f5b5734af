-- A line of a former sheet by its own tests, and the line that it is read as by today's: the same test fails first, or
-- none in both (`line_alike`). Only the lines of rules have `fix` rows that pass. Assumes nothing.
use mathlib.Core.Path.{◌≡◌, refl, sym, ◌∙◌, ap, ap₂}
use mathlib.Core.Logic.{inl, inr}
use mathlib.Core.Bool.{Bool, true, false, ◌&&◌, ◌||◌, not}
use mathlib.Core.Option.{Option, some}
use mathlib.Core.List.{List, [], ◌∷◌, ◌++◌}
use Prim.Native.Nat.{ℕ}
use lib.Dec.{eqb, ltb}
use lib.ListN.{length, drop}
use Rattle.prelude.specs.Bytes.{ascii}
use Rattle.prelude.specs.Checks.{first_failing_lem}
use Rattle.prelude.specs.Search.{answers}
use Rattle.prelude.proofs.Tests.{either, zero-is-one}
use Rattle.text.specs.Lines.{line_feed, up_to, fields, field}
use Rattle.refusal.specs.declared.Cause.{Cause}
use Rattle.refusal.specs.declared.Cause.TheVariants as C
use Rattle.network.specs.declared.Network.{Network}
use Rattle.line.specs.Tests.{Tests, kind_of, is_retired, kind_tests, section_tests, rule_tests}
use Rattle.line.specs.Tests.{rule_tests_by, limit_tests, ends_tests, line_tests}
use Rattle.line.specs.Sections.{Heading as Begins, heading_of_lem, horizon_heading, heading_tests, tests_of}
use Rattle.line.specs.declared.Section.{Section}
use Rattle.line.specs.declared.Section.TheVariants.{Events, Signals, Rules, Reactions, Cases}
use Rattle.sheet.specs.Place.{Expected, Horizon, Heading, Entry, NoMore, tests_at}
use Rattle.conversion.specs.Rows.{are_fix}
use Rattle.conversion.specs.FormerFault.{former_kind_tests, former_tests_at}
use Rattle.conversion.proofs.LineRead.{max_fields, max_fields-fix, max_fields-other, LineRead}
use Rattle.conversion.proofs.FixFields.{fix-is, heading-fails, Others, entry-fails, by_fix}
use Rattle.conversion.proofs.NamesSame.{NamesSame, own_alike, rule_alike}

-- a rule's line: behind its kind the tests are the same
former_kinds : (fs : List (List ℕ)) (rest : Tests) → are_fix fs ≡ false
    → first_failing_lem ((eqb (length fs) 5, C.WrongFields) ∷ (former_kind_tests (field 0 fs) ++ rest))
    ≡ first_failing_lem ((eqb (length fs) 5, C.WrongFields) ∷ (kind_tests (field 0 fs) ++ rest))
unfolding kind_tests
former_kinds fs rest e = by_five (eqb (length fs) 5) (is_retired (field 0 fs)) e
  where
    known : Bool
    known = answers (kind_of (field 0 fs))

    by_five : (five fix : Bool) → five && fix ≡ false
        → first_failing_lem ((five, C.WrongFields) ∷ ((known || fix, C.WrongFields) ∷ rest))
        ≡ first_failing_lem
        ((five, C.WrongFields) ∷ ((known || fix, C.WrongFields) ∷ ((not fix, C.RetiredKind) ∷ rest)))
    by_five false fix e = refl
    by_five true true e = zero-is-one cc
    by_five true false e = refl

-- the first field of a `fix` row passes by the former tests, and `max` by today's
fix_kind : (sheet : List ℕ) (Γ : Network) (fs : List (List ℕ))
    → first_failing_lem (rule_tests_by sheet Γ former_kind_tests (ascii "fix" ∷ fs))
    ≡ first_failing_lem (rule_tests_by sheet Γ kind_tests (ascii "max" ∷ fs))
unfolding kind_tests
fix_kind sheet Γ fs = refl

module _ {sheet other : List ℕ} {Γ : Network} (n : NamesSame sheet other Γ) where
  rules_alike : (fs : List (List ℕ)) → first_failing_lem (rule_tests_by sheet Γ former_kind_tests fs)
      ≡ first_failing_lem (rule_tests other Γ (max_fields fs))
  unfolding rule_tests
  rules_alike fs =
      elim (either (are_fix fs)) [
        | inl e ↦
            let r = drop 1 fs in
            ap (λ (xs : List (List ℕ)). first_failing_lem (rule_tests_by sheet Γ former_kind_tests xs)) (fix-is fs e)
            ∙ fix_kind sheet Γ r
            ∙ ap first_failing_lem (rule_alike n kind_tests (ascii "max" ∷ r)
            ∙ ap (rule_tests_by other Γ kind_tests) (sym (max_fields-fix fs e)))
        | inr e ↦
            let rest = limit_tests (field 3 fs) ++ ends_tests sheet Γ (field 1 fs) (field 2 fs) (field 4 fs) in
            former_kinds fs rest e
            ∙ ap first_failing_lem (rule_alike n kind_tests fs
            ∙ ap (rule_tests_by other Γ kind_tests) (sym (max_fields-other fs e)))
      ]

  entries_alike : (s : Section) (m : ℕ) (fs : List (List ℕ)) → Others s
      → first_failing_lem (tests_of sheet s m Γ fs) ≡ first_failing_lem (tests_of other s m Γ (max_fields fs))
  entries_alike s m fs o =
      by_fix (tests_of sheet s m Γ) (tests_of other s m Γ) fs (own_alike n s m fs)
      (λ xs e. entry-fails sheet s m Γ xs o e) (λ xs e. entry-fails other s m Γ xs o e)

headings_alike : (word : List ℕ) (lo hi : ℕ) (fs : List (List ℕ))
    → first_failing_lem (section_tests word lo hi fs) ≡ first_failing_lem (section_tests word lo hi (max_fields fs))
headings_alike word lo hi fs =
    by_fix (section_tests word lo hi) (section_tests word lo hi) fs refl (heading-fails word lo hi)
    (heading-fails word lo hi)

-- the whole line, which is read as that of the other sheet at this place
module _ (sheet other r : List ℕ) (Γ : Network) (at : ℕ) (n : NamesSame sheet other Γ)
    (w : LineRead (drop at sheet) (drop at other) r) (long : length other ≡ length sheet) where
  abbrev fs : List (List ℕ)
  fs = fields (up_to line_feed (drop at sheet))

  with_feed : (f g : List (List ℕ) → Tests) → first_failing_lem (f fs) ≡ first_failing_lem (g (max_fields fs))
      → first_failing_lem (line_tests (drop at sheet) f) ≡ first_failing_lem (line_tests (drop at other) g)
  with_feed f g e =
      ap₂ (λ (b : Bool) (o : Option Cause). elim b [ true ↦ o | false ↦ some C.MissingLine ]) (sym w.ends)
      (e ∙ ap (λ (xs : List (List ℕ)). first_failing_lem (g xs)) (sym w.cut))

  heading_alike : (h : Begins) → first_failing_lem (line_tests (drop at sheet) (heading_tests h))
      ≡ first_failing_lem (line_tests (drop at other) (heading_tests h))
  heading_alike h = with_feed (heading_tests h) (heading_tests h) (headings_alike (ascii h.word) h.least h.most fs)

  entry_alike : (s : Section) (m : ℕ) → Others s
      → first_failing_lem (line_tests (drop at sheet) (tests_of sheet s m Γ))
      ≡ first_failing_lem (line_tests (drop at other) (tests_of other s m Γ))
  entry_alike s m o = with_feed (tests_of sheet s m Γ) (tests_of other s m Γ) (entries_alike n s m fs o)

  pub line_alike : (d : Expected)
      → first_failing_lem (former_tests_at sheet d Γ at) ≡ first_failing_lem (tests_at other d Γ at)
  line_alike Horizon = heading_alike horizon_heading
  line_alike (Heading s) = heading_alike (heading_of_lem Γ.events s)
  line_alike (Entry Events m) = entry_alike Events m tt
  line_alike (Entry Signals m) = entry_alike Signals m tt
  line_alike (Entry Rules m) =
      with_feed (rule_tests_by sheet Γ former_kind_tests) (rule_tests other Γ) (rules_alike n fs)
  line_alike (Entry Reactions m) = entry_alike Reactions m tt
  line_alike (Entry Cases m) = entry_alike Cases m tt
  line_alike NoMore = ap (λ (l : ℕ). first_failing_lem ((not (ltb at l), C.TrailingBytes) ∷ [])) (sym long)
