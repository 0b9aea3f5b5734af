-- A network has at most one least solution: so any two solvers that give a least solution give the same, and no proof
-- of that looks at their code. Networks with the same solutions, and the same events in each scenario, have the same
-- least one, or none. Assumes nothing.
use mathlib.Core.Path.{◌≡◌, sym, ◌∙◌}
use mathlib.Core.Logic.{◌↔◌, inl, inr}
use mathlib.Core.List.{List}
use Prim.Native.Nat.{ℕ}
use native.Mathlib.Omega.{arith}
use lib.ListN.{get_or}
use lib.Seq.{ext_get_or}
use Rattle.prelude.proofs.Tests.{either}
use Rattle.prelude.proofs.Cells.{by-cell}
use Rattle.network.specs.Build.{scenarios}
use Rattle.network.specs.Happens.{happens}
use Rattle.network.specs.Solution.{Solution}
use Rattle.network.specs.Least.{NoLater, Least, Inconsistent}
use Rattle.network.specs.declared.Network.{Network}

-- solutions agree where an event does not happen, so none of two is later where they are equal
pub solutions_equal : {Γ : Network} {σ τ : List ℕ} → Solution Γ σ → Solution Γ τ → NoLater Γ σ τ → NoLater Γ τ σ → σ ≡ τ
solutions_equal {Γ} {σ} {τ} a b f g =
    ext_get_or 0 σ τ (a.sized ∙ sym b.sized) (λ i l.
    by-cell Γ.events (scenarios Γ) (λ k. get_or σ k 0 ≡ get_or τ k 0)
    (λ s u hs hu.
    elim (either (happens Γ s u)) [
      | inl e ↦ omega (arith, f.at_most s u hs hu e, g.at_most s u hs hu e)
      | inr e ↦ (a.on_time s u hs hu).absent e ∙ sym ((b.on_time s u hs hu).absent e)
    ])
    i (omega (arith, a.sized)))

pub least_unique : {Γ : Network} {σ τ : List ℕ} → Least Γ σ → Least Γ τ → σ ≡ τ
least_unique {Γ} {σ} {τ} a b =
    solutions_equal a.solves b.solves (a.no_later τ b.solves) (b.no_later σ a.solves)

-- the same events happen in the same scenarios
pub record SameEvents (Γ Δ : Network) : Type 0 where
  pub events : Γ.events ≡ Δ.events
  pub signals : Γ.signals ≡ Δ.signals
  pub happen : (s u : ℕ) → happens Γ s u ≡ happens Δ s u

pub same-events-back : {Γ Δ : Network} → SameEvents Γ Δ → SameEvents Δ Γ
same-events-back h =
    record { events = sym h.events; signals = sym h.signals; happen = λ s u. sym (h.happen s u) }

module _ {Γ Δ : Network} (same : SameEvents Γ Δ) where
  pub no_later_of_same : (σ τ : List ℕ) → NoLater Γ σ τ → NoLater Δ σ τ
  no_later_of_same σ τ h = record {
    at_most = λ s u hs hu e.
        rw same.events at
        (h.at_most s u (rw same.signals hs) (rw same.events hu) (same.happen s u ∙ e));
  }

  least_of_same : ((σ : List ℕ) → Solution Γ σ ↔ Solution Δ σ) → (σ : List ℕ) → Least Γ σ → Least Δ σ
  least_of_same h σ l = record {
    solves = (h σ).0 l.solves;
    no_later = λ τ s. no_later_of_same σ τ (l.no_later τ ((h τ).1 s));
  }

inconsistent_of_same : {Γ Δ : Network} → ((σ : List ℕ) → Solution Γ σ ↔ Solution Δ σ) → Inconsistent Γ → Inconsistent Δ
inconsistent_of_same h i = record { none = λ τ s. i.none τ ((h τ).1 s) }

module _ {Γ Δ : Network} (same : SameEvents Γ Δ) (h : (σ : List ℕ) → Solution Γ σ ↔ Solution Δ σ) where
  other_way : (σ : List ℕ) → Solution Δ σ ↔ Solution Γ σ
  other_way σ = ((h σ).1, (h σ).0)

  pub same-least : (σ : List ℕ) → Least Γ σ ↔ Least Δ σ
  same-least σ = (least_of_same same h σ, least_of_same (same-events-back same) other_way σ)

  pub same_inconsistent : Inconsistent Γ ↔ Inconsistent Δ
  same_inconsistent = (inconsistent_of_same h, inconsistent_of_same other_way)
