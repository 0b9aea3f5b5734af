-- Which of the tests of all labels is the first to fail: 20 exactly where the start has a label, and 21 exactly where
-- it has none and a label lacks part of the label of an event whose signal it uses. Assumes nothing.
use mathlib.Core.Path.{◌≡◌, refl}
use mathlib.Core.Logic.{◌↔◌, inl, inr}
use mathlib.Core.Bool.{Bool}
use Rattle.prelude.specs.Checks.{FirstFails}
use Rattle.prelude.proofs.Tests.{zero-is-one, clash, false_of_not-true}
use Rattle.refusal.specs.declared.Cause.TheVariants as C
use Rattle.network.specs.Build.{no_label, event_label}
use Rattle.network.specs.Complete.{AllComplete}
use Rattle.network.specs.declared.Network.{Network}
use Rattle.line.specs.Labelling.{Read, is_none_lem, are_complete_lem, whole_tests}
use Rattle.line.proofs.Labelling.{is_none_iff, are_complete_iff}

module _ (Γ : Network) where
  abbrev start : Bool
  start = is_none_lem (event_label Γ 0)

  pub start_fails : FirstFails (whole_tests Γ) C.StartLabelled ↔ (event_label Γ 0 ≡ no_label → ⊥)
  unfolding whole_tests
  start_fails = (
    λ f. elim f [
      | inl w ↦ λ e. clash start ((is_none_iff (event_label Γ 0)).1 e) w.0
      | inr w ↦ elim w.1 [ inl v ↦ zero-is-one (let other = v.1 in cc) | inr v ↦ absurd v.1 ]
    ],
    λ n. inl (false_of_not-true start (λ e. n ((is_none_iff (event_label Γ 0)).0 e)), refl),
  )

  pub complete_fails : Read Γ
      → FirstFails (whole_tests Γ) C.IncompleteLabel ↔ ((event_label Γ 0 ≡ no_label) × (AllComplete Γ → ⊥))
  unfolding whole_tests
  complete_fails R =
      let whole = are_complete_iff Γ R.signals R.lettered in (
        λ f. elim f [
          | inl w ↦ zero-is-one (let other = w.1 in cc)
          | inr w ↦ elim w.1 [
            | inl v ↦ ((is_none_iff (event_label Γ 0)).0 w.0, λ a. clash (are_complete_lem Γ) (whole.1 a) v.0)
            | inr v ↦ absurd v.1
          ]
        ],
        λ h. inr (
          (is_none_iff (event_label Γ 0)).1 h.0,
          inl (false_of_not-true (are_complete_lem Γ) (λ e. h.1 (whole.0 e)), refl),
        ),
      )
