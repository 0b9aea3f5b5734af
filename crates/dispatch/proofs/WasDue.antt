-- What is known was due: a signal is known in a case exactly where its event was due there its reaction ago or sooner.
-- So who plays a case hears of a signal from the answers, and never of one whose event the case does not have. Assumes
-- nothing.
use mathlib.Core.Path.{◌≡◌, refl}
use mathlib.Core.Logic.{◌↔◌}
use mathlib.Core.Bool.{true}
use mathlib.Core.List.{List}
use Prim.Native.Nat.{ℕ, ◌+◌, ◌≤◌}
use native.Mathlib.Omega.{arith}
use borrow.Author.Tests.{eqb-true, eq-eqb}
use lib.Dec.{eqb}
use Rattle.prelude.proofs.Tests.{and-true, and_both}
use Rattle.network.specs.Build.{observation}
use Rattle.network.specs.Happens.{happens}
use Rattle.network.specs.Strategy.{time, reaction, known}
use Rattle.network.specs.declared.Network.{Network}
use Rattle.network.proofs.Strategy.{given-known, from-known, is_known}
use Rattle.dispatch.specs.Due.{is_due_lem}

pub known_was_due : (Γ : Network) (σ : List ℕ) (m s p : ℕ) → (known Γ σ s p m ≡ true)
    ↔ ((i : ℕ) × (i + reaction Γ p ≤ m) × (is_due_lem Γ σ i s (observation Γ p) ≡ true))
known_was_due Γ σ m s p =
    let o = observation Γ p in
    let at = time Γ.events σ s o in (
      λ k. (
        at,
        from-known Γ σ s p m k,
        and_both (happens Γ s o) (eqb at at) (given-known Γ σ s p m k) (eq-eqb at at refl),
      ),
      λ w.
          let d = and-true (happens Γ s o) (eqb at w.0) w.2 in
          is_known Γ σ s p m d.0 (omega (arith, w.1, eqb-true at w.0 d.1)),
    )
