-- Laws of the core. What is said of a letter, by its two bits, and that over a network it is what a case has heard.
-- Then two loops, each by what has been passed: bits that add up, each of them new, so that nothing is carried
-- (`Summing`), and the records that a mask names (`Naming`); and what is due, by the case found. Assumes nothing.
use mathlib.Core.Path.{◌≡◌, refl, sym, ◌∙◌, ap}
use mathlib.Core.Bool.{Bool, true, false, ◌&&◌, ◌||◌, not, beq, cond}
use mathlib.Core.Option.{none, some}
use mathlib.Core.List.{List}
use Prim.Native.Nat.{ℕ, suc, ◌+◌, ◌*◌, ◌%◌, ◌^◌, ◌≤◌, ◌<◌}
use native.Mathlib.Nat.{zero-add, add-zero}
use native.Mathlib.Numerals.{add-one}
use native.Mathlib.Omega.{arith}
use lib.Dec.{eqb}
use lib.Pow.{pow_mono}
use Rattle.std.proofs.Common.{Some, None, Ok, Err}
use Rattle.prelude.specs.Bounded.{sum_below}
use Rattle.network.specs.Build.{letter, scenarios}
use Rattle.network.specs.Scenario.{truth}
use Rattle.network.specs.Strategy.{known}
use Rattle.network.specs.declared.Network.{Network}
use Rattle.names.proofs.Finds.{finds}
use Rattle.dispatch.specs.History.{known_truth}
use Rattle.dispatch.specs.Due.{is_due_lem, due_in_lem, as_heard, has_heard_lem, hearer}
use Rattle.dispatch.specs.Said.{said_on, stands_on, tells, with_heard, said_from}
use Rattle.dispatch.specs.Said.{records_on, well_named_on, due_on}
use Rattle.dispatch.specs.declared.Unanswered.TheVariants.{Misnamed, NeverHeard}
use Rattle.dispatch.proofs.Bits.{one_shifted, mask_small}
use Rattle.dispatch.proofs.Again.{named-from}

-- what a mask says of a letter, true or false, is tested as the code tests it: of nothing known, of true, of false
tells-none : (a b : Bool) → not (a || b) ≡ beq a false && beq b false
tells-none true b = refl
tells-none false true = refl
tells-none false false = refl

tells-true : (a b : Bool) → a && not b ≡ beq a true && beq b false
tells-true true true = refl
tells-true true false = refl
tells-true false b = refl

tells-false : (a b : Bool) → b && not a ≡ beq a false && beq b true
tells-false true true = refl
tells-false true false = refl
tells-false false true = refl
tells-false false false = refl

tells-is : (x l : ℕ) (k t : Bool) → tells x l (cond k (Some t) None)
    ≡ beq (said_on x l true) (k && beq t true) && beq (said_on x l false) (k && beq t false)
tells-is x l true true = tells-true (said_on x l true) (said_on x l false)
tells-is x l true false = tells-false (said_on x l true) (said_on x l false)
tells-is x l false t = tells-none (said_on x l true) (said_on x l false)

-- so it is what s has heard of the signal p
pub as_heard-is : (Γ : Network) (σ : List ℕ) (m x s p : ℕ)
    → tells x (letter Γ p) (known_truth Γ σ m s p) ≡ as_heard Γ σ m (said_on x) s p
as_heard-is Γ σ m x s p = tells-is x (letter Γ p) (known Γ σ s p m) (truth s p)

-- a loop over the events of s has come to u, and due has a bit for each below u that is due at m
pub record Summing (Γ : Network) (σ : List ℕ) (m s due u : ℕ) : Type 0 where
  pub within : u ≤ Γ.events
  pub sum : due ≡ sum_below u (λ v. cond (is_due_lem Γ σ m s v) (2 ^ v) 0)

module _ {Γ : Network} {σ : List ℕ} {m s due u : ℕ} (here : Summing Γ σ m s due u) where
  -- one more bit fits 16
  pub summing_fits : u < 16 → due + (1 * 2 ^ u) % 2 ^ 16 < 2 ^ 16
  summing_fits h =
      let small = mask_small (is_due_lem Γ σ m s) u in
      omega (arith, here.sum, one_shifted u 16 h, small, pow_mono {i = suc u} {j = 16} h)

  pub summing_bit : u < 16 → u < Γ.events → is_due_lem Γ σ m s u ≡ true
      → Summing Γ σ m s (due + (1 * 2 ^ u) % 2 ^ 16) (u + 1)
  summing_bit h l e = record { within = omega arith; sum = rw (one_shifted u 16 h, here.sum, add-one, e) }

  pub summing_none : u < Γ.events → is_due_lem Γ σ m s u ≡ false → Summing Γ σ m s due (u + 1)
  summing_none l e = record { within = omega arith; sum = rw (here.sum, add-one, e, add-zero) }

  pub summed : Γ.events ≤ u → due ≡ due_in_lem Γ σ m s
  summed l = let end : u ≡ Γ.events = omega (arith, here.within) in rw end at here.sum

pub misnamed-on : (Γ : Network) (σ : List ℕ) (m x : ℕ) → well_named_on Γ x ≡ false → Err Misnamed ≡ due_on Γ σ m x
unfolding due_on
misnamed-on Γ σ m x e = rw e

-- a loop over the signals has come to p, and the records that x names of those left make of `named` the mask of all
pub record Naming (Γ : Network) (x named p : ℕ) : Type 0 where
  pub within : p ≤ Γ.signals
  pub rest : (n : ℕ) → p + n ≡ Γ.signals → said_from named (named-from Γ x p n) ≡ said_from 0 (records_on Γ x)

pub naming_start : (Γ : Network) (x : ℕ) → Naming Γ x 0 0
naming_start Γ x = record {
  within = omega arith;
  rest = λ n e. ap (λ (k : ℕ). said_from 0 (named-from Γ x 0 k)) (sym (zero-add n) ∙ e);
}

module _ {Γ : Network} {x named p : ℕ} (here : Naming Γ x named p) where
  module _ (h : p < Γ.signals) where
    pub naming_one : stands_on x (letter Γ p) ≡ true
        → Naming Γ x (with_heard named (record { letter = letter Γ p; truth = said_on x (letter Γ p) true })) (p + 1)
    naming_one s =
        record { within = omega arith; rest = λ n e. rw add-one (rw s at (here.rest (suc n) (omega arith))) }

    pub naming_none : stands_on x (letter Γ p) ≡ false → Naming Γ x named (p + 1)
    naming_none s =
        record { within = omega arith; rest = λ n e. rw add-one (rw s at (here.rest (suc n) (omega arith))) }

  pub naming_end : Γ.signals ≤ p → eqb named x ≡ well_named_on Γ x
  naming_end h = ap (λ (y : ℕ). eqb y x) (here.rest 0 (omega (arith, here.within)))

-- where the letters are those of a list, what is due is that of the first case that has heard what x says
module _ (Γ : Network) (σ : List ℕ) (m x : ℕ) (named : well_named_on Γ x ≡ true) where
  pub heard-on : (s : ℕ) → hearer Γ σ m (said_on x) ≡ some s → Ok (due_in_lem Γ σ m s) ≡ due_on Γ σ m x
  unfolding due_on
  heard-on s e = rw (named, e)

  pub never_on : hearer Γ σ m (said_on x) ≡ none → Err NeverHeard ≡ due_on Γ σ m x
  unfolding due_on
  never_on e = rw (named, e)

-- that case is one of the network's
pub hearer_lt : (Γ : Network) (σ : List ℕ) (m x s : ℕ) → hearer Γ σ m (said_on x) ≡ some s → s < scenarios Γ
hearer_lt Γ σ m x s e = (finds (has_heard_lem Γ σ m (said_on x)) (scenarios Γ) s e).index_lt
