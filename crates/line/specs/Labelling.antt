-- The tests of all labels of a sheet, once the last line of the section `cases` is read (02, point 6, refusals 20 and
-- 21). What they ask is `WellLabelled` (network/specs/Complete.antt), by `whole_iff` (proofs/Labelling.antt).
use Rattle.std.specs.Prelude.{Bool, ◌&&◌, ◌||◌, not, [], ◌∷◌, ℕ, eqb}
use Rattle.prelude.specs.Bounded.{all_below}
use Rattle.refusal.specs.declared.Cause.TheVariants as C
use Rattle.network.specs.Limits as L
use Rattle.network.specs.Build.{observation, event_label, constraint}
use Rattle.network.specs.Scenario.{truth}
use Rattle.network.specs.Happens.{mentions}
use Rattle.network.specs.WellFormed.{Forming, Within}
use Rattle.network.specs.declared.Label.{Label}
use Rattle.network.specs.declared.Network.{Network}
use Rattle.line.specs.Tests.{Tests}

-- all lines of the sheet are read, and of the labels nothing is known yet that these tests ask
abbrev pub Read : Network → Type 0
Read Γ = Forming (record { events = 0; signals = 0; rules = 0; labels = Within }) Γ

-- the label is `-`
abbrev pub is_none_lem : Label → Bool
is_none_lem ℓ = eqb ℓ.positive 0 && eqb ℓ.negative 0

-- each letter of the sum m stands in the sum n
abbrev pub is_part_lem : ℕ → ℕ → Bool
is_part_lem m n = all_below L.signals (λ q. not (truth m q) || truth n q)

-- the label ℓ has each part of κ: each of its letters, with its sign
abbrev pub does_include : Label → Label → Bool
does_include ℓ κ = is_part_lem κ.positive ℓ.positive && is_part_lem κ.negative ℓ.negative

-- the label ℓ, if it uses signal p, lacks no part of κ
abbrev pub lacks_none_lem : ℕ → Label → Label → Bool
lacks_none_lem p κ ℓ = not (mentions ℓ p) || does_include ℓ κ

module _ (Γ : Network) where
  -- no event's label that uses signal p lacks part of κ, and no rule's
  abbrev pub events_include_lem : ℕ → Label → Bool
  events_include_lem p κ = all_below Γ.events (λ u. lacks_none_lem p κ (event_label Γ u))

  abbrev pub rules_include_lem : ℕ → Label → Bool
  rules_include_lem p κ = all_below Γ.rules (λ c. lacks_none_lem p κ (constraint Γ c).label)

  -- no label that uses signal p lacks part of the label of the event that gives it
  abbrev pub all_include : ℕ → Bool
  all_include p =
      let κ = event_label Γ (observation Γ p) in
      events_include_lem p κ && rules_include_lem p κ

  abbrev pub are_complete_lem : Bool
  are_complete_lem = all_below Γ.signals all_include

  -- "20, the start is given a label other than `-`; 21, an event's or rule's label lacks part of the label of an event
  -- whose signal it uses; .. 20 first"
  unfoldable pub whole_tests : Tests
  whole_tests = (is_none_lem (event_label Γ 0), C.StartLabelled) ∷ (are_complete_lem, C.IncompleteLabel) ∷ []
