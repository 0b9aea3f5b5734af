-- What the answer of the call that judges a table means: "the judge passes a table for an accepted sheet exactly when
-- the three points of a good table hold", and otherwise it names the first breach. `right` says that the table which is
-- handed in has the sheet's size, and σ are its minutes.
use Rattle.std.specs.Prelude.{◌≡◌, ◌↔◌, List, ℕ}
use Rattle.network.specs.Solution.{Solution}
use Rattle.network.specs.declared.Network.{Network}
use Rattle.checker.specs.First.{First}
use Rattle.checker.specs.declared.Breach.{Breach}
use Rattle.calls.specs.Values.{Values}
use Rattle.calls.specs.Bench.{Finding, passed, breach_values}
use Rattle.calls.specs.Answers.{Reads}

module _ (sheet : List ℕ) (right : Network → Type 0) (σ : List ℕ) (v : Values Finding) where
  abbrev pub Passes : Type 0
  Passes = (Γ : Network) → Reads sheet Γ → (v ≡ passed) ↔ (right Γ × Solution Γ σ)

  abbrev pub Breaches : Type 0
  Breaches = (Γ : Network) (b : Breach) → Reads sheet Γ → right Γ → (v ≡ breach_values b) ↔ First Γ σ b
