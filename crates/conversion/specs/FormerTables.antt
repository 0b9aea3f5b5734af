-- The good tables of a former sheet, of which c is what it contains and Γ a network that holds this: when events come,
-- and what tells cases apart, is asked as of every sheet; and of each rule what its kind says.
use Rattle.std.specs.Prelude.{◌≡◌, true, List, ℕ, suc, ◌+◌, ◌<◌, ℤ, pos, negsuc, length}
use Rattle.network.specs.Build.{constraint, scenarios, cells}
use Rattle.network.specs.Constraint.{admits, covers}
use Rattle.network.specs.Strategy.{time}
use Rattle.network.specs.Solution.{OnTime, Alike}
use Rattle.network.specs.Least.{NoLater}
use Rattle.network.specs.declared.Network.{Network}
use Rattle.conversion.specs.FormerSheet.{FormerKind, Today, Fix, FormerContents, kind_at}

-- "it equals the limit": b - a = w, said without subtraction
abbrev pub Equals : ℕ → ℕ → ℤ → Type 0
Equals a b (pos w) = b ≡ a + w
Equals a b (negsuc w) = b + suc w ≡ a

-- the time a of `from` and the time b of `to` keep the kind and its limit
abbrev pub FormerAdmits : FormerKind → ℕ → ℕ → ℤ → Type 0
FormerAdmits (Today k) a b w = admits k a b w ≡ true
FormerAdmits Fix a b w = Equals a b w

module _ (c : FormerContents) (Γ : Network) where
  -- rule i holds in case s, if it covers that
  abbrev pub FormerHolds : List ℕ → ℕ → ℕ → Type 0
  FormerHolds σ s i =
      let e = constraint Γ i in
      covers Γ e s ≡ true → FormerAdmits (kind_at c i) (time Γ.events σ s e.from) (time Γ.events σ s e.to) e.bound

  -- a good table
  pub record FormerSolution (σ : List ℕ) : Type 0 where
    pub sized : length σ ≡ cells Γ
    pub on_time : (s u : ℕ) → s < scenarios Γ → u < Γ.events → OnTime Γ σ s u
    pub viable : (s i : ℕ) → s < scenarios Γ → i < Γ.rules → FormerHolds σ s i
    pub dynamic : (s r u : ℕ) → s < scenarios Γ → r < scenarios Γ → u < Γ.events → Alike Γ σ s r u

  -- of these, the one in which no event that happens is later than in any other; and that there is none
  pub record FormerLeast (σ : List ℕ) : Type 0 where
    pub solves : FormerSolution σ
    pub no_later : (τ : List ℕ) → FormerSolution τ → NoLater Γ σ τ

  pub record FormerNone : Type 0 where
    pub none : (τ : List ℕ) → FormerSolution τ → ⊥
