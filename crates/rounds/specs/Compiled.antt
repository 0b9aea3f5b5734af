-- What the rounds are given of a network: its constraints, and the waits of its labels, as lists of bounds.
use Rattle.std.specs.Prelude.{◌≡◌, true, cond, List, ℕ, ◌-◌, ◌≤◌, ◌<◌, max, pos, length}
use Rattle.prelude.specs.Bounded.{max_below}
use Rattle.network.specs.Limits as L
use Rattle.network.specs.Build.{observation, event_label, constraint, scenarios}
use Rattle.network.specs.Happens.{mentions, happens}
use Rattle.network.specs.Strategy.{reaction}
use Rattle.network.specs.Joint.{joint}
use Rattle.network.specs.declared.Kind.TheVariants.{Min}
use Rattle.network.specs.declared.Label.{Label}
use Rattle.network.specs.declared.Constraint.{Constraint}
use Rattle.network.specs.declared.Network.{Network}
use Rattle.rows.specs.Rows.{RowIn}
use Rattle.bounds.specs.declared.list.BoundList.{BoundList}
use Rattle.bounds.specs.Listed.{asks, in_case, AllEndsAmong, NoLonger}
use Rattle.rounds.specs.Propagate.{bound_by_kind, constraint_bound, constraints_bound, waits_bound}

-- that event w comes no sooner than so many minutes after an observation, as a constraint
abbrev pub wait_by : ℕ → ℕ → ℕ → Label → Constraint
wait_by observation w reaction ℓ = record { kind = Min; from = observation; to = w; bound = pos reaction; label = ℓ }

-- the constraint under another label
abbrev pub under : Label → Constraint → Constraint
under ℓ c = record { kind = c.kind; from = c.from; to = c.to; bound = c.bound; label = ℓ }

module _ (Γ : Network) where
  -- a constraint under the one label that it counts under
  abbrev pub jointly : Constraint → Constraint
  jointly c = under (joint Γ c) c

  -- that event w comes no sooner than signal p is known
  abbrev pub wait : ℕ → ℕ → Constraint
  wait w p = wait_by (observation Γ p) w (reaction Γ p) (event_label Γ w)

  -- what the waits of event w for the first p signals ask of event u
  abbrev pub wait_asks : List ℕ → ℕ → ℕ → ℕ → ℕ → ℕ
  wait_asks σ s u w p =
      max_below p (λ q. cond (mentions (event_label Γ w) q)
      (cond (happens Γ s w) (bound_by_kind Γ σ Min s u (wait w q)) 0) 0)

  -- the lists have at most m bounds a case, and ask f
  pub record Asking (lists : List BoundList) (m : ℕ) (f : List ℕ → ℕ → ℕ → ℕ) : Type 0 where
    pub sized : length lists ≡ L.cases
    pub short : NoLonger m lists
    pub asks_of : (σ row : List ℕ) (s u : ℕ) → s < scenarios Γ → RowIn Γ σ s row
        → asks (in_case lists s) row u - L.horizon ≡ f σ s u

  -- and each bound is between events of the sheet
  abbrev pub AskingAmong : List BoundList → ℕ → (List ℕ → ℕ → ℕ → ℕ) → Type 0
  AskingAmong lists m f = Asking lists m f × AllEndsAmong Γ.events lists

  -- what the first i constraints ask
  abbrev pub constraints_ask : ℕ → List ℕ → ℕ → ℕ → ℕ
  constraints_ask i σ s u = max_below i (λ c. constraint_bound Γ σ s u (constraint Γ c))

  -- what they all ask, with the waits of the first w events and, of the next, those for the first p signals
  abbrev pub all_ask : ℕ → ℕ → List ℕ → ℕ → ℕ → ℕ
  all_ask w p σ s u =
      max (constraints_bound Γ σ s u) (max (max_below w (λ v. wait_asks σ s u v Γ.signals)) (wait_asks σ s u w p))

-- the lists ask what the constraints and the waits do of each event that happens, and nothing behind the events
pub record Compiles (Γ : Network) (lists : List BoundList) : Type 0 where
  pub sized : length lists ≡ L.cases
  pub asks_of : (σ row : List ℕ) (s u : ℕ) → s < scenarios Γ → u < Γ.events → happens Γ s u ≡ true → RowIn Γ σ s row
      → asks (in_case lists s) row u - L.horizon ≡ max (constraints_bound Γ σ s u) (waits_bound Γ σ s u)
  pub beyond : (σ row : List ℕ) (s u : ℕ) → s < scenarios Γ → Γ.events ≤ u → RowIn Γ σ s row
      → asks (in_case lists s) row u - L.horizon ≡ 0

-- and each bound is between events of the sheet
abbrev pub CompilesAmong : Network → List BoundList → Type 0
CompilesAmong Γ lists = Compiles Γ lists × AllEndsAmong Γ.events lists
