-- Constraints as lists of difference bounds.
use Rattle.std.specs.Prelude.{◌≡◌, cond, List, [], ◌∷◌, ◌++◌, ℕ, ◌+◌, ◌≤◌, ◌<◌, max, eqb, length, get_or, take}
use Rattle.std.specs.List.{All}
use Rattle.std.proofs.Common.{lit≤}
use Rattle.network.specs.Limits as L
use Rattle.network.specs.Scenario.{satisfies}
use Rattle.network.specs.WellFormed.{InLimits, FewLetters}
use Rattle.network.specs.declared.Kind.{Kind}
use Rattle.network.specs.declared.Kind.TheVariants.{Max, Min}
use Rattle.network.specs.declared.Constraint.{Constraint}
use Rattle.network.specs.declared.Label.{Label}
use Rattle.bounds.specs.declared.bound.Bound.{Bound}
use Rattle.bounds.specs.declared.list.BoundList.{BoundList}
use Rattle.bounds.specs.Weight.{weight_of, lower_weight}

-- a constraint that can be listed as a bound, under its own label
pub record Listable (c : Constraint) : Type 0 where
  pub from : c.from < L.events
  pub to : c.to < L.events
  pub bound : InLimits c.bound
  pub label : FewLetters c.label

-- the bound is this one
pub record Is (b : Bound) (target source weight : ℕ) : Type 0 where
  pub target_is : b.target ≡ target
  pub source_is : b.source ≡ source
  pub weight_is : b.weight ≡ weight

-- the bound is the constraint's, by its kind: a `max` asks that `from` comes late enough for `to`, and a `min` that
-- `to` does for `from`
abbrev pub ByKind : Kind → Constraint → Bound → Type 0
ByKind Max c b = Is b c.from c.to (weight_of c.bound)
ByKind Min c b = Is b c.to c.from (lower_weight c.bound)

-- what a bound asks of event u at the times of row, and 10,080
abbrev pub asking : Bound → List ℕ → ℕ → ℕ
asking b row u = cond (eqb b.target u) (get_or row b.source 0 + b.weight) 0

-- what all bounds of a list ask
abbrev pub asks : List Bound → List ℕ → ℕ → ℕ
asks [] row u = 0
asks (b ∷ bs) row u = max (asking b row u) (asks bs row u)

-- the bounds that are listed
abbrev pub listed : BoundList → List Bound
listed l = take l.count l.bounds

-- no bounds
abbrev pub none : BoundList
none = record { count = 0; bounds = []; short = lit≤ tt }

-- the list of scenario s, and its bounds
abbrev pub case : List BoundList → ℕ → BoundList
case lists s = get_or lists s none

abbrev pub in_case : List BoundList → ℕ → List Bound
in_case lists s = listed (case lists s)

-- the bound's ends are among the first n events
pub record EndsAmong (n : ℕ) (b : Bound) : Type 0 where
  pub target_in : b.target < n
  pub source_in : b.source < n

-- so are those of each bound that is listed
abbrev pub AllEndsAmong : ℕ → List BoundList → Type 0
AllEndsAmong n lists = (s : ℕ) → All (EndsAmong n) (in_case lists s)

-- each list has at most m bounds
abbrev pub NoLonger : ℕ → List BoundList → Type 0
NoLonger m lists = (s : ℕ) → (case lists s).count ≤ m

-- the bound is listed for those of the first k scenarios in which the label holds
pub record Added (ℓ : Label) (b : Bound) (lists lists' : List BoundList) (k : ℕ) : Type 0 where
  pub sized : length lists' ≡ length lists
  pub adds : (s : ℕ) → s < k → in_case lists' s ≡ cond (satisfies s ℓ) (in_case lists s ++ b ∷ []) (in_case lists s)
  pub later : (s : ℕ) → k ≤ s → case lists' s ≡ case lists s
  pub grows : (s : ℕ) → (case lists' s).count ≤ (case lists s).count + 1
