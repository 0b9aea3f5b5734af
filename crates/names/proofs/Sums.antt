-- Laws of sums of weights: a letter that stands once has the weight of its place, the sum over two lists is the sum
-- of both, and a sum of weights of at most four signals is the sum over the signals that are true in it, which is a
-- computed test over all such sums. Assumes nothing.
use mathlib.Core.Path.{◌≡◌, refl}
use mathlib.Core.Logic.{inl, inr}
use mathlib.Core.Bool.{Bool, true, cond}
use mathlib.Core.Option.{some}
use mathlib.Core.List.{List, [], ◌∷◌, ◌++◌}
use Prim.Native.Nat.{ℕ, ◌+◌, ◌^◌, ◌≤◌, ◌<◌}
use native.Mathlib.Omega.{arith}
use borrow.Author.Tests.{eqb-true, eq-eqb}
use lib.Dec.{eqb}
use lib.ListN.{length, get_or}
use Rattle.prelude.specs.Bounded.{all_below, sum_below}
use Rattle.prelude.specs.Lists.{Distinct}
use Rattle.prelude.specs.Search.{answers}
use Rattle.prelude.proofs.Tests.{either, clash}
use Rattle.prelude.proofs.Search.{answered}
use Rattle.prelude.proofs.Bounded.{true_of_all_below}
use Rattle.network.specs.Limits as L
use Rattle.network.specs.Scenario.{truth}
use Rattle.names.specs.Names.{Literal}
use Rattle.names.specs.Defined.{place_of, weight, weights}
use Rattle.names.proofs.Finds.{finds_nothing}
use Rattle.names.proofs.Labels.{place_is}

-- a letter is found at its place
module _ (bs : List ℕ) (once : Distinct bs 0) (p : ℕ) (h : p < length bs) where
  abbrev b : ℕ
  b = get_or bs p 0

  pub place_of_lem : place_of (length bs) bs b ≡ some p
  place_of_lem =
      elim (either (answers (place_of (length bs) bs b))) [
        | inl e ↦
            let w = answered (place_of (length bs) bs b) e in
            let q = place_is (length bs) bs b w.0 w.1 in
            let same : w.0 ≡ p = once.once w.0 p q.below h q.letter in
            rw same at w.1
        | inr e ↦ clash (eqb b b) (eq-eqb b b refl) (finds_nothing (λ q. eqb (get_or bs q 0) b) (length bs) e p h)
      ]

  pub weight_of : weight (length bs) bs b ≡ 2 ^ p
  weight_of = rw (place_of_lem, weight)

-- letters one behind the other
pub weights-append : (k : ℕ) (bs : List ℕ) (v : Bool) (xs ys : List Literal)
    → weights k bs v (xs ++ ys) ≡ weights k bs v xs + weights k bs v ys
weights-append k bs v [] ys = omega arith
weights-append k bs v (x ∷ xs) ys = omega (arith, weights-append k bs v xs ys)

-- the weight of p, where m has it
abbrev pub weight_in : ℕ → ℕ → ℕ
weight_in m p = cond (truth m p) (2 ^ p) 0

abbrev is_sum : ℕ → ℕ → Bool
is_sum k m = eqb (sum_below k (weight_in m)) m

sums_hold : all_below 5 (λ k. all_below (2 ^ k) (is_sum k)) ≡ true
sums_hold = refl

pub truths_sum : (k m : ℕ) → k ≤ L.signals → m < 2 ^ k → sum_below k (weight_in m) ≡ m
truths_sum k m few h =
    eqb-true (sum_below k (weight_in m)) m
    (true_of_all_below (is_sum k) (2 ^ k)
    (true_of_all_below (λ k. all_below (2 ^ k) (is_sum k)) 5 sums_hold k (omega arith)) m h)
