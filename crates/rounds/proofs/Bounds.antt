-- What the constraints ask agrees with point 2: a constraint holds in a scenario exactly when it asks no more than the
-- times that are there. Assumes nothing.
use mathlib.Core.Path.{◌≡◌, refl}
use mathlib.Core.Bool.{Bool, true, false, cond}
use mathlib.Core.List.{List}
use lib.IntN.{ℤ, pos, negsuc}
use Prim.Native.Nat.{ℕ, suc, ◌+◌, ◌≤◌}
use native.Mathlib.Omega.{arith}
use borrow.Author.Tests.{leb-true, le-leb, eqb-true, eq-eqb}
use lib.Dec.{eqb}
use Rattle.network.specs.Constraint.{at_most, at_least, admits, covers}
use Rattle.network.specs.Strategy.{time}
use Rattle.network.specs.Solution.{Holds}
use Rattle.network.specs.declared.Kind.{Kind}
use Rattle.network.specs.declared.Kind.TheVariants.{Max, Min}
use Rattle.network.specs.declared.Constraint.{Constraint}
use Rattle.network.specs.declared.Network.{Network}
use Rattle.rounds.specs.Propagate.{least_from, least_to, bound_by_kind, constraint_bound}

-- b - a ≤ w exactly when `from` is no sooner than its least time, and w ≤ b - a when `to` is not
pub from_at_most : (a b : ℕ) (w : ℤ) → at_most a b w ≡ true → least_from b w ≤ a
from_at_most a b (pos w) h = omega (arith, leb-true b (a + w) h)
from_at_most a b (negsuc w) h = leb-true (b + suc w) a h

pub at_most_from : (a b : ℕ) (w : ℤ) → least_from b w ≤ a → at_most a b w ≡ true
at_most_from a b (pos w) h = le-leb b (a + w) (omega arith)
at_most_from a b (negsuc w) h = le-leb (b + suc w) a h

pub to_at_least : (a b : ℕ) (w : ℤ) → at_least a b w ≡ true → least_to a w ≤ b
to_at_least a b (pos w) h = leb-true (a + w) b h
to_at_least a b (negsuc w) h = omega (arith, leb-true a (b + suc w) h)

pub at_least_to : (a b : ℕ) (w : ℤ) → least_to a w ≤ b → at_least a b w ≡ true
at_least_to a b (pos w) h = le-leb (a + w) b h
at_least_to a b (negsuc w) h = le-leb a (b + suc w) (omega arith)

-- a time that is at most e later asks for a time that is at most e later
pub least_from-near : (e b c : ℕ) (w : ℤ) → b ≤ c + e → least_from b w ≤ least_from c w + e
least_from-near e b c (pos w) h = omega arith
least_from-near e b c (negsuc w) h = omega arith

pub least_to-near : (e a c : ℕ) (w : ℤ) → a ≤ c + e → least_to a w ≤ least_to c w + e
least_to-near e a c (pos w) h = omega arith
least_to-near e a c (negsuc w) h = omega arith

-- what is asked where a test holds, and elsewhere, or nothing elsewhere
pub either_near : (e : ℕ) (t : Bool) (x x' y y' : ℕ) → x ≤ y + e → x' ≤ y' + e → cond t x x' ≤ cond t y y' + e
either_near e true x x' y y' h k = h
either_near e false x x' y y' h k = k

pub cond-near : (e : ℕ) (t : Bool) (x y : ℕ) → x ≤ y + e → cond t x 0 ≤ cond t y 0 + e
cond-near e t x y h = either_near e t x 0 y 0 h (omega arith)

pub cond_le : (t : Bool) (x m : ℕ) → (t ≡ true → x ≤ m) → cond t x 0 ≤ m
cond_le true x m h = h refl
cond_le false x m h = omega arith

pub le_cond : (t : Bool) (x m : ℕ) → t ≡ true → cond t x 0 ≤ m → x ≤ m
le_cond t x m e h = rw e at h

module _ (Γ : Network) (σ : List ℕ) (s : ℕ) (c : Constraint) where
  abbrev at : ℕ → ℕ
  at u = time Γ.events σ s u

  -- for each kind
  asked_of_admits : (k : Kind) → admits k (at c.from) (at c.to) c.bound ≡ true → (u : ℕ)
      → bound_by_kind Γ σ k s u c ≤ at u
  asked_of_admits Max h u =
      cond_le (eqb c.from u) _ (at u) λ e.
      rw (← eqb-true c.from u e) (from_at_most (at c.from) (at c.to) c.bound h)
  asked_of_admits Min h u =
      cond_le (eqb c.to u) _ (at u) λ e.
      rw (← eqb-true c.to u e) (to_at_least (at c.from) (at c.to) c.bound h)

  admits_of_asked : (k : Kind) → bound_by_kind Γ σ k s c.from c ≤ at c.from → bound_by_kind Γ σ k s c.to c ≤ at c.to
      → admits k (at c.from) (at c.to) c.bound ≡ true
  admits_of_asked Max f g =
      at_most_from (at c.from) (at c.to) c.bound
      (le_cond (eqb c.from c.from) _ _ (eq-eqb c.from c.from refl) f)
  admits_of_asked Min f g =
      at_least_to (at c.from) (at c.to) c.bound
      (le_cond (eqb c.to c.to) _ _ (eq-eqb c.to c.to refl) g)

  pub bound_of_holds : Holds Γ σ s c → (u : ℕ) → constraint_bound Γ σ s u c ≤ at u
  bound_of_holds h u = cond_le (covers Γ c s) _ (at u) λ e. asked_of_admits c.kind (h.holds e) u

  pub holds_of_bound : constraint_bound Γ σ s c.from c ≤ at c.from → constraint_bound Γ σ s c.to c ≤ at c.to
      → Holds Γ σ s c
  holds_of_bound f g = record {
    holds = λ e. admits_of_asked c.kind (le_cond (covers Γ c s) _ _ e f) (le_cond (covers Γ c s) _ _ e g);
  }
