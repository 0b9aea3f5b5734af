-- What the tests of a line say that passes: its count is in range, and what it defines was not defined before. Assumes
-- nothing.
use mathlib.Core.Path.{◌≡◌}
use mathlib.Core.Bool.{Bool, true, false, ◌&&◌, ◌||◌, not}
use mathlib.Core.Option.{none, some}
use mathlib.Core.List.{List}
use Prim.Native.Nat.{ℕ, ◌≤◌, ◌<◌}
use borrow.Author.Tests.{leb-true, not-true}
use lib.Dec.{eqb, leb}
use lib.ListN.{get_or, take, drop}
use Rattle.prelude.specs.Checks.{first_failing_lem}
use Rattle.prelude.specs.Search.{answers}
use Rattle.prelude.specs.Bytes.{same}
use Rattle.prelude.proofs.Tests.{and-true, or-false}
use Rattle.text.specs.Lines.{field}
use Rattle.text.specs.Number.{in_range, is_negative, magnitude}
use Rattle.network.specs.Build.{observation}
use Rattle.network.specs.declared.Network.{Network}
use Rattle.names.specs.Defined.{place_of}
use Rattle.names.proofs.Finds.{finds_nothing}
use Rattle.line.specs.Tests.{section_tests, second_number, event_of, is_observation}
use Rattle.line.specs.Sections.{Heading, heading_tests}
use Rattle.line.proofs.Checks.{all_hold}

-- a count that passed is in its range
pub record Counted (h : Heading) (fs : List (List ℕ)) : Type 0 where
  pub least : h.least ≤ second_number fs
  pub most : second_number fs ≤ h.most

pub counted : (h : Heading) (fs : List (List ℕ)) → first_failing_lem (heading_tests h fs) ≡ none → Counted h fs
unfolding section_tests in_range
counted h fs e =
    let f = field 1 fs in
    let lo = h.least in
    let hi = h.most in
    let in_range_lem = all_hold (heading_tests h fs) e 2 in
    let within = and-true (not (is_negative f)) (leb lo (magnitude f) && leb (magnitude f) hi) in_range_lem in
    let ends = and-true (leb lo (magnitude f)) (leb (magnitude f) hi) within.1 in
    record { least = leb-true lo (magnitude f) ends.0; most = leb-true (magnitude f) hi ends.1 }

-- whether event v has this name
abbrev pub is_named : List ℕ → Network → List ℕ → ℕ → Bool
is_named sheet Γ f v = same (take (get_or Γ.lengths v 0) (drop (get_or Γ.starts v 0) sheet)) f

module _ (sheet : List ℕ) (Γ : Network) (fs : List (List ℕ)) where
  -- the event that gives a signal gave none before
  pub new_signal : (u : ℕ) → event_of sheet Γ (field 1 fs) ≡ some u
      → not (answers (place_of Γ.signals Γ.letters (get_or (field 0 fs) 0 0)) || is_observation Γ
      (event_of sheet Γ (field 1 fs))) ≡ true
      → (q : ℕ) → q < Γ.signals → eqb (observation Γ q) u ≡ false
  new_signal u e h q l =
      let a = answers (place_of Γ.signals Γ.letters (get_or (field 0 fs) 0 0)) in
      let b = is_observation Γ (event_of sheet Γ (field 1 fs)) in
      let n = or-false a b (not-true (a || b) h) in
      finds_nothing (λ p. eqb (get_or Γ.observations p 0) u) Γ.signals (rw e at n.1) q l
