-- Laws of a rule's refusal, test by test, as its reader tries them: its kind and its limit, then its ends and its
-- label. Assumes nothing.
use mathlib.Core.Path.{◌≡◌, ◌∙◌}
use mathlib.Core.Bool.{true, false, ◌&&◌}
use mathlib.Core.Option.{none, some}
use Rattle.std.proofs.Math.Option
use mathlib.Core.List.{List, ◌++◌}
use Prim.Native.Nat.{ℕ}
use borrow.Author.Tests.{eq-eqb, ne_eqb, leb-true}
use mir.Syntax.{w32}
use mir.Val.{to_z, of_z}
use mir.ValLaws.{to_z-of_z}
use lib.IntN.{ℤ}
use lib.ListN.{length}
use Rattle.prelude.specs.Bytes.{ascii}
use Rattle.prelude.specs.Checks.{first_failing_lem}
use Rattle.text.specs.Lines.{field}
use Rattle.text.proofs.Lines.{same_length}
use Rattle.text.specs.Number.{magnitude, value_of}
use Rattle.refusal.specs.declared.Cause.{Cause}
use Rattle.refusal.specs.declared.Cause.TheVariants as C
use Rattle.network.specs.Limits as L
use Rattle.network.specs.declared.Kind.{Kind}
use Rattle.network.specs.declared.Kind.TheVariants.{Max}
use Rattle.network.specs.declared.Network.{Network}
use Rattle.names.specs.Names.{is_name_lem, is_label_lem, label_of}
use Rattle.names.specs.Defined.{mask_of}
use Rattle.line.specs.Tests.{Tests, kind_of, is_retired, kind_tests, event_of, limit_tests, letters_tests, ends_tests}
use Rattle.line.specs.Tests.{rule_tests}
use Rattle.line.specs.Sections.{rule_of}
use Rattle.line.proofs.Checks.{all_hold, fails_before, fails_behind}
use Rattle.line.proofs.Numbers.{value-fits}

-- a kind has three letters, also the one that is retired
pub no_kind : (f : List ℕ) → (length f ≡ 3 → ⊥) → first_failing_lem (kind_tests f) ≡ some C.WrongFields
unfolding kind_tests
no_kind f n =
    rw (
      kind_of,
      is_retired,
      same_length f (ascii "max") n,
      same_length f (ascii "min") n,
      same_length f (ascii "fix") n,
    )

-- a limit that passed fits an i32
pub limit-fits : (f : List ℕ) (z : ℤ) → first_failing_lem (limit_tests f) ≡ none → value_of f ≡ z
    → to_z w32 (of_z w32 z) ≡ z
limit-fits f z e v =
    to_z-of_z w32 z (rw v at (value-fits f (leb-true (magnitude f) L.horizon (all_hold (limit_tests f) e 1))))

-- a rule's tests, as they are tried
module _ (sheet : List ℕ) (Γ : Network) (fs : List (List ℕ)) where
  pub rule-count : (length fs ≡ 5 → ⊥) → first_failing_lem (rule_tests sheet Γ fs) ≡ some C.WrongFields
  unfolding rule_tests
  rule-count n = rw (ne_eqb (length fs) 5 n)

  abbrev kind : Tests
  kind = kind_tests (field 0 fs)

  abbrev limit : Tests
  limit = limit_tests (field 3 fs)

  abbrev ends : Tests
  ends = ends_tests sheet Γ (field 1 fs) (field 2 fs) (field 4 fs)

  module _ (n : length fs ≡ 5) where
    pub rule-kind : (c : Cause) → first_failing_lem kind ≡ some c → first_failing_lem (rule_tests sheet Γ fs) ≡ some c
    unfolding rule_tests
    rule-kind c h = rw (eq-eqb (length fs) 5 n) (fails_before kind (limit ++ ends) c h)

    module _ (e : first_failing_lem kind ≡ none) where
      pub rule-limit : (c : Cause) → first_failing_lem limit ≡ some c
          → first_failing_lem (rule_tests sheet Γ fs) ≡ some c
      unfolding rule_tests
      rule-limit c h = rw (eq-eqb (length fs) 5 n) (fails_behind kind (limit ++ ends) e ∙ fails_before limit ends c h)

      pub rule-ends : first_failing_lem limit ≡ none
          → first_failing_lem (rule_tests sheet Γ fs) ≡ first_failing_lem ends
      unfolding rule_tests
      rule-ends h = rw (eq-eqb (length fs) 5 n) (fails_behind kind (limit ++ ends) e ∙ fails_behind limit ends h)

  -- what it holds
  pub rule-is : (k : Kind) (a b : ℕ) (z : ℤ) → Option.get_or (kind_of (field 0 fs)) Max ≡ k
      → event_of sheet Γ (field 1 fs) ≡ some a → event_of sheet Γ (field 2 fs) ≡ some b → value_of (field 3 fs) ≡ z
      → rule_of sheet Γ fs ≡ record {
        kind = k;
        from = a;
        to = b;
        bound = z;
        label = mask_of Γ.signals Γ.letters (label_of (field 4 fs));
      }
  rule-is k a b z e p q v = rw (e, p, q, v)

-- the ends and the label of a rule
module _ (sheet : List ℕ) (Γ : Network) (from to label : List ℕ) where
  pub ends_ill : is_name_lem from && (is_name_lem to && is_label_lem label) ≡ false
      → first_failing_lem (ends_tests sheet Γ from to label) ≡ some C.IllFormedName
  unfolding ends_tests
  ends_ill e = rw e

  module _ (e : is_name_lem from && (is_name_lem to && is_label_lem label) ≡ true) where
    pub ends-from : event_of sheet Γ from ≡ none → first_failing_lem (ends_tests sheet Γ from to label)
        ≡ some C.Undefined
    unfolding ends_tests
    ends-from p = rw (e, p)

    module _ (a : ℕ) (p : event_of sheet Γ from ≡ some a) where
      pub ends-to : event_of sheet Γ to ≡ none → first_failing_lem (ends_tests sheet Γ from to label)
          ≡ some C.Undefined
      unfolding ends_tests
      ends-to q = rw (e, p, q)

      module _ (b : ℕ) (q : event_of sheet Γ to ≡ some b) where
        pub ends-letters : first_failing_lem (ends_tests sheet Γ from to label)
            ≡ first_failing_lem (letters_tests Γ label)
        unfolding ends_tests
        ends-letters = rw (e, p, q)
