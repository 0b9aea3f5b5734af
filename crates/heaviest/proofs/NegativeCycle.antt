-- A negative cycle: a network whose `min` rows make a ring, one of them with the limit 1 and the others with 0. As an
-- edge of the distance graph each has its limit negated, so that their sum is -1. Assumes nothing.
use mathlib.Core.Path.{◌≡◌}
use mathlib.Core.Bool.{true, cond}
use mathlib.Core.List.{List}
use Prim.Native.Nat.{ℕ, suc, ◌+◌, ◌≤◌, ◌<◌}
use native.Mathlib.Nat.{mul-one}
use lib.Dec.{eqb}
use lib.IntN.{pos}
use Rattle.network.specs.Build.{no_label, event_label, constraint, scenarios, cells}
use Rattle.network.specs.Happens.{happens}
use Rattle.network.specs.Constraint.{covers}
use Rattle.network.specs.Strategy.{time}
use Rattle.network.specs.declared.Kind.TheVariants.{Min}
use Rattle.network.specs.declared.Constraint.{Constraint}
use Rattle.network.specs.declared.Network.{Network}
use Rattle.network.proofs.Labels.{satisfies-none, happens-unlabelled}
use Rattle.rounds.specs.Propagate.{constraint_bound}

abbrev pub no_sooner : ℕ → ℕ → ℕ → Constraint
no_sooner u v w = record { kind = Min; from = u; to = v; bound = pos w; label = no_label }

-- row c of m
abbrev pub ring_constraint : ℕ → ℕ → Constraint
ring_constraint m c = cond (eqb (suc c) m) (no_sooner m 1 1) (no_sooner (suc c) (suc (suc c)) 0)

-- m events besides the start go around; how they are named does not matter
pub record NegativeCycle (m : ℕ) (Γ : Network) : Type 0 where
  pub some : 1 ≤ m
  pub events : Γ.events ≡ suc m
  pub signals : Γ.signals ≡ 0
  pub unlabelled : (u : ℕ) → event_label Γ u ≡ no_label
  pub rules : Γ.rules ≡ m
  pub rows : (c : ℕ) → c < m → constraint Γ c ≡ ring_constraint m c

-- what one of its rows asks
pub row_asks : (Γ : Network) (σ : List ℕ) (u a b w : ℕ) → ((v : ℕ) → happens Γ 0 v ≡ true)
    → constraint_bound Γ σ 0 u (no_sooner a b w) ≡ cond (eqb b u) (time Γ.events σ 0 a + w) 0
unfolding covers
row_asks Γ σ u a b w h = rw (satisfies-none 0, h a, h b)

module _ {m : ℕ} {Γ : Network} (r : NegativeCycle m Γ) where
  pub happens_all : (s u : ℕ) → happens Γ s u ≡ true
  happens_all s u = happens-unlabelled Γ s u (r.unlabelled u)

  pub cells_are : cells Γ ≡ suc m
  cells_are = rw (r.events, r.signals) (mul-one (suc m))

  pub one_scenario : scenarios Γ ≡ 1
  one_scenario = rw r.signals
