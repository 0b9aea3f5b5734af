-- One round of value iteration (004, Theorem 1): each cell takes the greatest of its own time and of each bound that
-- the constraints, the waits of labels and the hyperarcs set there. All bounds are read off the strategy before the
-- round, so that no cell sees what another becomes in it; and a cell without its event stays. Counts of rounds are
-- counts of these: the round is fixed, since another one would change what the solver's callers are told.
use Rattle.std.specs.Prelude.{cond, List, ℕ, suc, ◌+◌, ◌-◌, ◌/◌, ◌%◌, max, ℤ, pos, negsuc, eqb}
use Rattle.prelude.specs.Bounded.{max_below, tabulate}
use Rattle.network.specs.Build.{constraint, event_label, scenarios, cells}
use Rattle.network.specs.Happens.{mentions, happens}
use Rattle.network.specs.Constraint.{covers}
use Rattle.network.specs.Strategy.{time, known_from, least_known_lem}
use Rattle.network.specs.declared.Kind.{Kind}
use Rattle.network.specs.declared.Kind.TheVariants.{Max, Min}
use Rattle.network.specs.declared.Constraint.{Constraint}
use Rattle.network.specs.declared.Network.{Network}

-- the least time of `from` under b - a ≤ w, and the least time of `to` under w ≤ b - a
abbrev pub least_from : ℕ → ℤ → ℕ
least_from b (pos w) = b - w
least_from b (negsuc w) = b + suc w

abbrev pub least_to : ℕ → ℤ → ℕ
least_to a (pos w) = a + w
least_to a (negsuc w) = a - suc w

module _ (Γ : Network) (σ : List ℕ) where
  abbrev at : ℕ → ℕ → ℕ
  at s u = time Γ.events σ s u

  -- what one constraint asks of event u in scenario s, by its kind: a `max` asks something of `from`, a `min` of `to`
  abbrev pub bound_by_kind : Kind → ℕ → ℕ → Constraint → ℕ
  bound_by_kind Max s u c = cond (eqb c.from u) (least_from (at s c.to) c.bound) 0
  bound_by_kind Min s u c = cond (eqb c.to u) (least_to (at s c.from) c.bound) 0

  -- and that only where it counts
  abbrev pub constraint_bound : ℕ → ℕ → Constraint → ℕ
  constraint_bound s u c = cond (covers Γ c s) (bound_by_kind c.kind s u c) 0

  -- what the constraints ask
  abbrev pub constraints_bound : ℕ → ℕ → ℕ
  constraints_bound s u = max_below Γ.rules (λ c. constraint_bound s u (constraint Γ c))

  -- what the label of u asks: to come no sooner than each of its signals is known
  abbrev pub waits_bound : ℕ → ℕ → ℕ
  waits_bound s u = max_below Γ.signals (λ p. cond (mentions (event_label Γ u) p) (known_from Γ σ s p) 0)

  -- the hyperarc of s, r and u (004, Definition 16): "the lesser of the other case's minute and one more than the
  -- earliest differing signal in its own case"; since 02, point 3, each signal's reaction stands for the one
  abbrev pub hyperarc : ℕ → ℕ → ℕ → ℕ
  hyperarc s r u = least_known_lem Γ σ s r (at r u) Γ.signals

  -- what all hyperarcs ask, to the scenarios in which u happens too
  abbrev pub hyperarcs_bound : ℕ → ℕ → ℕ
  hyperarcs_bound s u = max_below (scenarios Γ) (λ r. cond (happens Γ r u) (hyperarc s r u) 0)

  -- the greatest of the cell's own time and each bound
  abbrev pub greatest_bound : ℕ → ℕ → ℕ
  greatest_bound s u = max (at s u) (max (constraints_bound s u) (max (waits_bound s u) (hyperarcs_bound s u)))

  -- a cell without its event stays
  abbrev pub raised : ℕ → ℕ → ℕ
  raised s u = cond (happens Γ s u) (greatest_bound s u) (at s u)

  -- every cell from the strategy before the round
  unfoldable pub propagate : List ℕ
  propagate = tabulate (cells Γ) (λ i. raised (i / Γ.events) (i % Γ.events))
