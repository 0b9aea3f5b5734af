-- The waits of labels, one bound for each signal of each label, ask what the definition does. Assumes nothing.
use mathlib.Core.Path.{◌≡◌}
use mathlib.Core.Bool.{true, false}
use mathlib.Core.List.{List}
use Prim.Native.Nat.{ℕ, ◌+◌, ◌≤◌, ◌<◌, max}
use native.Mathlib.Numerals.{add-one}
use native.Mathlib.Omega.{arith}
use Rattle.prelude.proofs.Tests.{false_of_not-true}
use Rattle.network.specs.Build.{no_label, event_label, scenarios}
use Rattle.network.specs.Happens.{mentions, happens}
use Rattle.network.specs.WellFormed.{Proper, WellFormed}
use Rattle.network.specs.declared.Kind.TheVariants.{Min}
use Rattle.network.specs.declared.Network.{Network}
use Rattle.network.proofs.Labels.{mentions-none}
use Rattle.bounds.specs.declared.bound.Bound.{Bound}
use Rattle.bounds.specs.declared.list.BoundList.{BoundList}
use Rattle.bounds.specs.Listed.{ByKind, Added}
use Rattle.rounds.specs.Compiled.{wait, Asking, constraints_ask, all_ask, Compiles}
use Rattle.rounds.proofs.Asking.{asking_as, asking-more}
use Rattle.rounds.proofs.WaitsAsk.{waits-are, unlabelled-waits, constraints-beyond, waits-beyond}

module _ {Γ : Network} where
  -- behind the constraints
  pub waits_start : {lists : List BoundList} {m : ℕ} → Asking Γ lists m (constraints_ask Γ Γ.rules)
      → Asking Γ lists m (all_ask Γ 0 0)
  waits_start A = asking_as A (omega arith) (λ σ s u. omega arith)

  module _ (W : WellFormed Γ) (w : ℕ) where
    -- a wait is a constraint that can be listed
    pub wait-proper : w < Γ.events → (p : ℕ) → p < Γ.signals → Proper Γ (wait Γ w p)
    wait-proper hw p hp = record {
      from = W.observed p hp;
      to = hw;
      bound = omega (arith, W.in_range_lem p);
      label = W.lettered w;
    }

    module _ {lists : List BoundList} {m : ℕ} (p : ℕ) (A : Asking Γ lists m (all_ask Γ w p)) where
      pub wait_skip : mentions (event_label Γ w) p ≡ false → Asking Γ lists (m + 1) (all_ask Γ w (p + 1))
      wait_skip e = asking_as A (omega arith) (λ σ s u. rw (add-one p, e) (omega arith))

      pub wait-next : {lists' : List BoundList} (b : Bound) → w < Γ.events → p < Γ.signals
          → mentions (event_label Γ w) p ≡ true
          → ByKind Min (wait Γ w p) b → Added (event_label Γ w) b lists lists' (scenarios Γ)
          → Asking Γ lists' (m + 1) (all_ask Γ w (p + 1))
      unfolding happens
      wait-next b hw hp e B L =
          asking_as (asking-more A (wait Γ w p) (wait-proper hw p hp) b B L) (omega arith)
          (λ σ s u. rw (add-one p, e) (last _ _ _ _))
        where
          last : (a b c d : ℕ) → max (max a (max b c)) d ≡ max a (max b (max c d))
          last a b c d = omega arith

    -- one event more
    pub waits-next : {lists : List BoundList} {m n : ℕ} → Asking Γ lists m (all_ask Γ w Γ.signals) → m ≤ n
        → Asking Γ lists n (all_ask Γ (w + 1) 0)
    waits-next A l = asking_as A l (λ σ s u. rw (add-one w) (omega arith))

-- all listed
module _ {Γ : Network} (W : WellFormed Γ) {lists : List BoundList} where
  pub compiled-waits : {m : ℕ} → Asking Γ lists m (all_ask Γ Γ.events 0) → Compiles Γ lists
  compiled-waits A = record {
    sized = A.sized;
    asks_of = λ σ row s u l hu e R. omega (arith, A.asks_of σ row s u l R, waits-are Γ σ s u hu e);
    beyond = λ σ row s u l b R.
        omega (arith, A.asks_of σ row s u l R, constraints-beyond W σ s u b, waits-beyond W σ s u b);
  }

  pub compiled-unlabelled : {m : ℕ} → ((u : ℕ) → event_label Γ u ≡ no_label)
      → Asking Γ lists m (constraints_ask Γ Γ.rules) → Compiles Γ lists
  compiled-unlabelled e A = record {
    sized = A.sized;
    asks_of = λ σ row s u l hu here R.
        let none = unlabelled-waits Γ σ s u (λ p. rw (e u) (false_of_not-true _ (mentions-none p))) in
        omega (arith, A.asks_of σ row s u l R, none);
    beyond = λ σ row s u l b R. omega (arith, A.asks_of σ row s u l R, constraints-beyond W σ s u b);
  }
