-- The upper bounds that remain: they are no more than a sheet has rules, each is proper, and their lines are those of
-- the form. Assumes nothing.
use mathlib.Core.Path.{◌≡◌, refl, ◌∙◌, ap}
use mathlib.Core.List.{List, map, map-map}
use Prim.Native.Nat.{ℕ, ◌≤◌, ◌<◌}
use lib.ListN.{length, get_or}
use Rattle.prelude.specs.Bounded.{tabulate}
use Rattle.prelude.proofs.Lists.{all_of}
use Rattle.prelude.proofs.Mapped.{map-tabulate}
use Rattle.network.specs.Limits as L
use Rattle.network.specs.Build.{no_constraint}
use Rattle.network.specs.WellFormed.{Proper, WellFormed}
use Rattle.network.specs.declared.Constraint.{Constraint}
use Rattle.network.specs.declared.Network.{Network}
use Rattle.layout.specs.Layout.{rule_line}
use Rattle.tighten.specs.Tightest.{remaining_of}
use Rattle.tighten.proofs.Few.{remaining_of-few}
use Rattle.tighten.proofs.Remains.{remaining-proper}
use Rattle.canonical.specs.House.{as_rule}

module _ (Γ : Network) {us : List Constraint} (are : us ≡ remaining_of Γ) where
  pub remaining-few : WellFormed Γ → length us ≤ L.rules
  remaining-few w = rw are (remaining_of-few Γ w)

  pub remaining-proper-at : WellFormed Γ → (i : ℕ) → i < length us → Proper Γ (get_or us i no_constraint)
  remaining-proper-at w = rw are (remaining-proper Γ w).each

  -- by their places
  pub remaining-lines : (sheet : List ℕ)
      → map rule_line (map (as_rule sheet Γ) (remaining_of Γ))
      ≡ tabulate (length us) (λ i. rule_line (as_rule sheet Γ (get_or us i no_constraint)))
  remaining-lines sheet =
      let line_of : Constraint → List ℕ = λ r. rule_line (as_rule sheet Γ r) in
      rw (← are)
      (map-map rule_line (as_rule sheet Γ) us
      ∙ ap (map line_of) (all_of no_constraint (length us) us refl)
      ∙ map-tabulate line_of (λ i. get_or us i no_constraint) (length us))
