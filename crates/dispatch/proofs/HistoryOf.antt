-- The list that holds what a case has heard in the order of the signals is its history: it is well named, and says of
-- each signal what the case has heard of it. Assumes nothing.
use mathlib.Core.Bool.{Bool}
use mathlib.Core.List.{List}
use Prim.Native.Nat.{ℕ}
use Rattle.network.specs.Scenario.{truth}
use Rattle.network.specs.Strategy.{known}
use Rattle.network.specs.declared.Network.{Network}
use Rattle.dispatch.specs.Heard.{Lettered}
use Rattle.dispatch.specs.History.{History, history_of}
use Rattle.dispatch.proofs.History.{well_named, history_of_told}
use Rattle.dispatch.proofs.Records.{records_named, says_records}

pub history_of_lem : (Γ : Network) (σ : List ℕ) (m : ℕ) → Lettered Γ → (s : ℕ) → History Γ σ m (history_of Γ σ m s) s
history_of_lem Γ σ m lettered s =
    let known_in : ℕ → Bool = λ p. known Γ σ s p m in
    history_of_told Γ σ m ((well_named Γ (history_of Γ σ m s)).0 (records_named Γ lettered known_in (truth s)))
    (says_records Γ lettered known_in (truth s))
