-- The tests of all labels: what they ask is that no label lacks part of the label of an event whose signal it uses, and
-- that the start has none (`whole_iff`). Assumes nothing.
use mathlib.Core.Path.{◌≡◌}
use mathlib.Core.Logic.{◌↔◌}
use mathlib.Core.Bool.{Bool, true, false, ◌||◌, not}
use mathlib.Core.Option.{none, some}
use mathlib.Core.List.{List}
use Prim.Native.Nat.{ℕ, ◌≤◌, ◌<◌}
use lib.ListN.{length, get_or, take}
use Rattle.std.proofs.lemmas.List.{get_or-take, length-take}
use native.Mathlib.Omega.{arith}
use borrow.Author.Tests.{eqb-true}
use lib.Dec.{eqb}
use Rattle.prelude.specs.Checks.{first_failing_lem}
use Rattle.prelude.proofs.Tests.{and-true, and_both, implied, implies}
use Rattle.prelude.proofs.Bounded.{true_of_all_below, all_below_true}
use Rattle.refusal.specs.declared.Cause.TheVariants as C
use Rattle.network.specs.Limits as L
use Rattle.network.specs.Build.{no_label, observation, event_label, constraint}
use Rattle.network.specs.Scenario.{truth}
use Rattle.network.specs.Happens.{mentions}
use Rattle.network.specs.Complete.{Includes, Complete, AllComplete, WellLabelled}
use Rattle.network.specs.WellFormed.{FewLetters, Lettered}
use Rattle.network.specs.declared.Label.{Label}
use Rattle.network.specs.declared.Network.{Network}
use Rattle.network.proofs.Labels.{truth-below}
use Rattle.names.proofs.Labels.{scenarios-fit}
use Rattle.line.specs.Labelling.{Read, is_none_lem, is_part_lem, does_include, lacks_none_lem, events_include_lem}
use Rattle.line.specs.Labelling.{rules_include_lem, all_include, are_complete_lem, whole_tests}
use Rattle.line.proofs.Checks.{all_hold}

-- a label whose letters are signals is small
small : (Γ : Network) (ℓ : Label) → Γ.signals ≤ L.signals → Lettered Γ ℓ → FewLetters ℓ
small Γ ℓ few w =
    let fit = scenarios-fit Γ.signals few in
    record { positive = omega (arith, fit, w.positive); negative = omega (arith, fit, w.negative) }

-- what a loop over the first n of a list tries at i is its element i
pub tried : {A : Type 0} (n : ℕ) (xs : List A) (i : ℕ) (d : A) → i < length (take n xs)
    → (i < n) × (get_or (take n xs) i d ≡ get_or xs i d)
tried n xs i d h =
    let inside : i < n = omega (arith, length-take n xs) in
    (inside, get_or-take n xs i d inside)

pub small_of : (Γ : Network) (ℓ : Label) → Read Γ → Lettered Γ ℓ → FewLetters ℓ
small_of Γ ℓ R w = small Γ ℓ R.signals w

none_is : (a b : ℕ) → a ≡ 0 → b ≡ 0 → ◌≡◌ {A = Label} (record { positive = a; negative = b }) no_label
none_is a b p q = rw (p, q)

pub is_none_iff : (ℓ : Label) → (is_none_lem ℓ ≡ true) ↔ (ℓ ≡ no_label)
is_none_iff ℓ = (
  λ e.
      let w = and-true (eqb ℓ.positive 0) (eqb ℓ.negative 0) e in
      none_is ℓ.positive ℓ.negative (eqb-true ℓ.positive 0 w.0) (eqb-true ℓ.negative 0 w.1),
  λ e. rw e,
)

is_part_iff : (m n : ℕ) → m < L.cases → (is_part_lem m n ≡ true) ↔ ((q : ℕ) → truth m q ≡ true → truth n q ≡ true)
is_part_iff m n h =
    let f : ℕ → Bool = λ q. not (truth m q) || truth n q in (
      λ e q t. implied (truth m q) (truth n q) (true_of_all_below f L.signals e q (truth-below m L.signals q h t)) t,
      λ g. all_below_true f L.signals (λ q _. implies (truth m q) (truth n q) (g q)),
    )

pub does_include_iff : (ℓ κ : Label) → FewLetters κ → (does_include ℓ κ ≡ true) ↔ Includes ℓ κ
does_include_iff ℓ κ w =
    let yes = is_part_iff κ.positive ℓ.positive w.positive in
    let no = is_part_iff κ.negative ℓ.negative w.negative in
    let a = is_part_lem κ.positive ℓ.positive in
    let b = is_part_lem κ.negative ℓ.negative in (
      λ e. let p = and-true a b e in record { positive = yes.0 p.0; negative = no.0 p.1 },
      λ h. and_both a b (yes.1 h.positive) (no.1 h.negative),
    )

-- the two tests, as the code tries them
module _ (Γ : Network) where
  pub whole-start : is_none_lem (event_label Γ 0) ≡ false → first_failing_lem (whole_tests Γ) ≡ some C.StartLabelled
  unfolding whole_tests
  whole-start e = rw e

  pub whole_lacks : is_none_lem (event_label Γ 0) ≡ true → are_complete_lem Γ ≡ false
      → first_failing_lem (whole_tests Γ) ≡ some C.IncompleteLabel
  unfolding whole_tests
  whole_lacks e f = rw (e, f)

  pub whole-passes : is_none_lem (event_label Γ 0) ≡ true → are_complete_lem Γ ≡ true
      → first_failing_lem (whole_tests Γ) ≡ none
  unfolding whole_tests
  whole-passes e f = rw (e, f)

-- what they mean rests on no more than that the letters of labels are signals, of which there are at most four
module _ (Γ : Network) (few : Γ.signals ≤ L.signals) (lettered : (u : ℕ) → Lettered Γ (event_label Γ u)) where
  -- the label of the event that gives p
  abbrev needed : ℕ → Label
  needed p = event_label Γ (observation Γ p)

  includes_iff : (ℓ : Label) (p : ℕ) → (does_include ℓ (needed p) ≡ true) ↔ Includes ℓ (needed p)
  includes_iff ℓ p = does_include_iff ℓ (needed p) (small Γ (needed p) few (lettered (observation Γ p)))

  complete_of : (ℓ : Label) → ((p : ℕ) → p < Γ.signals → lacks_none_lem p (needed p) ℓ ≡ true) → Complete Γ ℓ
  complete_of ℓ h = record {
    includes = λ p l m. (includes_iff ℓ p).0 (implied (mentions ℓ p) (does_include ℓ (needed p)) (h p l) m);
  }

  of_complete : (ℓ : Label) → Complete Γ ℓ → (p : ℕ) → p < Γ.signals → lacks_none_lem p (needed p) ℓ ≡ true
  of_complete ℓ h p l =
      implies (mentions ℓ p) (does_include ℓ (needed p)) (λ m. (includes_iff ℓ p).1 (h.includes p l m))

  pub are_complete_iff : (are_complete_lem Γ ≡ true) ↔ AllComplete Γ
  are_complete_iff = (
    λ e.
        let at : (p : ℕ) → p < Γ.signals → (events_include_lem Γ p (needed p) ≡ true)
        × (rules_include_lem Γ p (needed p) ≡ true) =
        λ p l.
        and-true (events_include_lem Γ p (needed p)) (rules_include_lem Γ p (needed p))
        (true_of_all_below (all_include Γ) Γ.signals e p l) in
        record {
          event = λ u h. complete_of (event_label Γ u) (λ p l.
              true_of_all_below (λ u. lacks_none_lem p (needed p) (event_label Γ u)) Γ.events (at p l).0 u h);
          rule = λ c h. complete_of (constraint Γ c).label (λ p l.
              true_of_all_below (λ c. lacks_none_lem p (needed p) (constraint Γ c).label) Γ.rules (at p l).1 c h);
        },
    λ w. all_below_true (all_include Γ) Γ.signals (λ p l.
        and_both (events_include_lem Γ p (needed p)) (rules_include_lem Γ p (needed p))
        (all_below_true (λ u. lacks_none_lem p (needed p) (event_label Γ u)) Γ.events
        (λ u h. of_complete (event_label Γ u) (w.event u h) p l))
        (all_below_true (λ c. lacks_none_lem p (needed p) (constraint Γ c).label) Γ.rules
        (λ c h. of_complete (constraint Γ c).label (w.rule c h) p l))),
  )

  pub lettered-whole_iff : (first_failing_lem (whole_tests Γ) ≡ none) ↔ WellLabelled Γ
  unfolding whole_tests
  lettered-whole_iff = (
    λ e. record {
      start = (is_none_iff (event_label Γ 0)).0 (all_hold (whole_tests Γ) e 0);
      complete = are_complete_iff.0 (all_hold (whole_tests Γ) e 1);
    },
    λ w. whole-passes Γ ((is_none_iff (event_label Γ 0)).1 w.start) (are_complete_iff.1 w.complete),
  )

pub whole_iff : (Γ : Network) → Read Γ → (first_failing_lem (whole_tests Γ) ≡ none) ↔ WellLabelled Γ
whole_iff Γ R = lettered-whole_iff Γ R.signals R.lettered
