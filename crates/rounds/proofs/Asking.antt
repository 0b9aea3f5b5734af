-- A constraint that is listed asks what the definition does, where its label holds; and so do all constraints, each
-- under its joint label. Assumes nothing.
use mathlib.Core.Path.{◌≡◌, refl, ◌∙◌}
use mathlib.Core.Bool.{Bool, true, false, cond}
use mathlib.Core.List.{List, [], ◌∷◌, ◌++◌}
use Prim.Native.Nat.{ℕ, zero, suc, ◌+◌, ◌-◌, ◌≤◌, ◌<◌, max}
use native.Mathlib.Numerals.{add-one}
use native.Mathlib.Omega.{arith}
use lib.Dec.{eqb}
use lib.IntN.{ℤ, pos, negsuc}
use lib.ListN.{length, get_or}
use Rattle.network.specs.Build.{constraint, scenarios}
use Rattle.network.specs.Scenario.{satisfies}
use Rattle.network.specs.WellFormed.{InLimits, WellFormed, Proper}
use Rattle.network.specs.declared.Kind.{Kind}
use Rattle.network.specs.declared.Kind.TheVariants.{Max, Min}
use Rattle.network.specs.declared.Constraint.{Constraint}
use Rattle.network.specs.declared.Label.{Label}
use Rattle.network.specs.declared.Network.{Network}
use Rattle.network.proofs.Jointly.{covers-joint, joint-lettered}
use Rattle.rows.specs.Rows.{RowIn}
use Rattle.rows.proofs.Gapless.{sixteen}
use Rattle.bounds.specs.declared.bound.Bound.{Bound}
use Rattle.bounds.specs.declared.list.BoundList.{BoundList}
use Rattle.bounds.specs.Weight.{weight_of, lower_weight}
use Rattle.bounds.specs.Listed.{Listable, ByKind, asking, asks, case, in_case, Added}
use Rattle.bounds.proofs.Asked.{asks-append}
use Rattle.rounds.specs.Propagate.{least_from, least_to, bound_by_kind}
use Rattle.rounds.specs.Compiled.{under, jointly, Asking, constraints_ask}

-- a constraint of a network, also one that is not on its sheet, can be listed
pub listable : {Γ : Network} → WellFormed Γ → (c : Constraint) → Proper Γ c → Listable c
listable {Γ} W c p =
    let few = sixteen Γ.signals W.signals in
    record {
      from = omega (arith, W.events, p.from);
      to = omega (arith, W.events, p.to);
      bound = p.bound;
      label = record { positive = omega (arith, p.label.positive); negative = omega (arith, p.label.negative) };
    }

-- and so can it be under its joint label
pub jointly-proper : {Γ : Network} → WellFormed Γ → (c : Constraint) → Proper Γ c → Proper Γ (jointly Γ c)
jointly-proper {Γ} W c p = record {
  from = p.from;
  to = p.to;
  bound = p.bound;
  label = joint-lettered Γ c p.label W.lettered;
}

-- a weight adds what the definition does, for each sign, around zero and at both ends
upper-adds : (b : ℕ) (w : ℤ) → InLimits w → b + weight_of w - 10080 ≡ least_from b w
upper-adds b (pos zero) h = omega arith
upper-adds b (pos (suc w)) h = omega arith
upper-adds b (negsuc w) h = omega arith

lower-adds : (a : ℕ) (w : ℤ) → InLimits w → a + lower_weight w - 10080 ≡ least_to a w
lower-adds a (pos zero) h = omega arith
lower-adds a (pos (suc w)) h = omega arith
lower-adds a (negsuc w) h = omega arith

-- the bias is taken off what is asked, if anything is
unbiased : (t : Bool) (x y : ℕ) → x - 10080 ≡ y → cond t x 0 - 10080 ≡ cond t y 0
unbiased true x y e = e
unbiased false x y e = omega arith

-- what a bound asks is what its constraint does
asking-is : {Γ : Network} {σ row : List ℕ} {s : ℕ} (u : ℕ) (c : Constraint) → Proper Γ c → RowIn Γ σ s row
    → (b : Bound) (k : Kind) → ByKind k c b → asking b row u - 10080 ≡ bound_by_kind Γ σ k s u c
asking-is {row = row} u c p R b Max B =
    rw (B.target_is, B.source_is, B.weight_is, ← R.at c.to p.to)
    (unbiased (eqb c.from u) _ _ (upper-adds (get_or row c.to 0) c.bound p.bound))
asking-is {row = row} u c p R b Min B =
    rw (B.target_is, B.source_is, B.weight_is, ← R.at c.from p.from)
    (unbiased (eqb c.to u) _ _ (lower-adds (get_or row c.from 0) c.bound p.bound))

-- what is asked behind a bound that is listed
added-asks : {ℓ : Label} {b : Bound} {lists lists' : List BoundList} {k : ℕ} → Added ℓ b lists lists' k → (s : ℕ)
    → s < k → (row : List ℕ) (u : ℕ)
    → asks (in_case lists' s) row u ≡ max (asks (in_case lists s) row u) (cond (satisfies s ℓ) (asking b row u) 0)
added-asks {ℓ} {b} {lists} A s h row u = rw (A.adds s h) (either_way (satisfies s ℓ) (in_case lists s)) where
  either_way : (t : Bool) (bs : List Bound)
      → asks (cond t (bs ++ b ∷ []) bs) row u ≡ max (asks bs row u) (cond t (asking b row u) 0)
  either_way true bs = asks-append bs b row u
  either_way false bs = omega arith

module _ {Γ : Network} {lists : List BoundList} {m : ℕ} {f : List ℕ → ℕ → ℕ → ℕ} (A : Asking Γ lists m f) where
  -- longer lists that ask the same
  pub asking_as : {n : ℕ} {g : List ℕ → ℕ → ℕ → ℕ} → m ≤ n → ((σ : List ℕ) (s u : ℕ) → f σ s u ≡ g σ s u)
      → Asking Γ lists n g
  asking_as l e = record {
    sized = A.sized;
    short = λ s. omega (arith, A.short s);
    asks_of = λ σ row s u h R. A.asks_of σ row s u h R ∙ e σ s u;
  }

  -- lists with one constraint more
  pub asking-more : {lists' : List BoundList} (c : Constraint) → Proper Γ c → (b : Bound) → ByKind c.kind c b
      → Added c.label b lists lists' (scenarios Γ)
      → Asking Γ lists' (m + 1)
      (λ σ s u. max (f σ s u) (cond (satisfies s c.label) (bound_by_kind Γ σ c.kind s u c) 0))
  asking-more c p b B L = record {
    sized = L.sized ∙ A.sized;
    short = λ s. omega (arith, A.short s, L.grows s);
    asks_of = λ σ row s u l R.
        omega (
          arith,
          added-asks L s l row u,
          A.asks_of σ row s u l R,
          unbiased (satisfies s c.label) _ _ (asking-is u c p R b c.kind B),
        );
  }

-- what a constraint asks does not depend on its label
bound-under : (Γ : Network) (σ : List ℕ) (s u : ℕ) (k : Kind) (c : Constraint) (ℓ : Label)
    → bound_by_kind Γ σ k s u (under ℓ c) ≡ bound_by_kind Γ σ k s u c
bound-under Γ σ s u Max c ℓ = refl
bound-under Γ σ s u Min c ℓ = refl

-- all constraints, one by one, each under its joint label
module _ (Γ : Network) {lists : List BoundList} where
  pub listing_none : length lists ≡ 16 → ((s : ℕ) → (case lists s).count ≡ 0) → Asking Γ lists 0 (constraints_ask Γ 0)
  listing_none l h = record {
    sized = l;
    short = λ s. rw (h s) (omega arith);
    asks_of = λ σ row s u b R. rw (h s);
  }

  pub listing-next : {lists' : List BoundList} (i : ℕ) → Asking Γ lists i (constraints_ask Γ i)
      → let c = jointly Γ (constraint Γ i) in
      Proper Γ c → (b : Bound) → ByKind c.kind c b → Added c.label b lists lists' (scenarios Γ)
      → Asking Γ lists' (i + 1) (constraints_ask Γ (i + 1))
  listing-next i A p b B L =
      let c = constraint Γ i in
      asking_as (asking-more A (jointly Γ c) p b B L) (omega arith)
      (λ σ s u. rw (add-one i, ← covers-joint Γ c s, bound-under Γ σ s u c.kind c (jointly Γ c).label))
