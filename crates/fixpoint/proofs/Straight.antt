-- What the tests of far lists tell of the lists between. Let c be an entry of rise l, and i ≤ j. The list after i
-- moves lies at most i * l above the one in which entries faster than c stand j leads ahead; of that one `faster`
-- says that the step adds at most l at c, and no difference grows, so from the list after i moves it adds at most l.
-- And the list in which entries slower than c stand j lags behind lies at most (j - i) * l above the one after i
-- moves: by `slower` the step adds at least l there too. Assumes nothing.
use mathlib.Core.Path.{◌≡◌, sym, ◌∙◌}
use mathlib.Core.List.{List}
use Prim.Native.Nat.{ℕ, zero, suc, ◌+◌, ◌-◌, ◌*◌, ◌≤◌, ◌<◌, min}
use native.Mathlib.Nat.{add-mul, suc-mul, zero-mul}
use native.Mathlib.Omega.{arith}
use lib.ListN.{length, get_or}
use Rattle.fixpoint.specs.Order.{Below}
use Rattle.fixpoint.specs.Near.{Nonexpansive}
use Rattle.fixpoint.specs.Iterate.{iterate}
use Rattle.fixpoint.specs.Straight.{moved, AtMost, AtLeast}
use Rattle.fixpoint.proofs.Order.{below_by, below_trans, below_antisymm}
use Rattle.fixpoint.proofs.Iterate.{iterate-sized, near-monotone}
use Rattle.fixpoint.proofs.Moved.{length_moved, moved_at, over_moved, lead, lag}

module _ (n : ℕ) (step : List ℕ → List ℕ) (N : Nonexpansive n step) (t d : List ℕ) (l : length t ≡ n) (j : ℕ) where
  abbrev on : ℕ → List ℕ
  on i = moved t i (λ k. get_or d k 0)

  on-sized : (i : ℕ) → length (on i) ≡ n
  on-sized i = length_moved t i (λ k. get_or d k 0) ∙ l

  iterated_sized : (i : ℕ) → length (iterate i step t) ≡ n
  iterated_sized i = iterate-sized step n N.sized i t l

  at-start : (c : ℕ) → c < length t → get_or (on 0) c 0 ≡ get_or t c 0
  at-start c b = moved_at t 0 (λ k. get_or d k 0) c b ∙ omega (arith, zero-mul (get_or d c 0))

  module _ (S : AtMost step t d j) where
    step_at-most : (i : ℕ) → i ≤ j → Below (step (on i)) (on (suc i))
    step_at-most i h = below_by n (step (on i)) (on (suc i)) (N.sized (on i) (on-sized i)) (λ c b.
        let b' : c < length t = omega arith in
        let ahead : ℕ → ℕ = λ k. get_or d k 0 - get_or d c 0 in
        let o = over_moved (i * get_or d c 0) t i j (λ k. get_or d k 0) ahead (λ k. lead i j (get_or d k 0)
        (get_or d c 0) h) in
        omega (
          arith,
          (N.near (i * get_or d c 0) (moved t j ahead) (on i) (length_moved t j ahead ∙ l) (on-sized i) o).at c,
          (S.faster c b').is,
          moved_at t (suc i) (λ k. get_or d k 0) c b',
          suc-mul i (get_or d c 0),
        ))

    -- one more step than moves were tested
    pub at_most : (i : ℕ) → i ≤ suc j → Below (iterate i step t) (on i)
    at_most zero h = below_by n t (on 0) l (λ c b. omega (arith, at-start c (omega arith)))
    at_most (suc i) h =
        below_trans (near-monotone n step N (iterate i step t) (on i) (iterated_sized i) (on-sized i)
        (at_most i (omega arith)))
        (step_at-most i (omega arith))

  module _ (S : AtLeast step t d j) where
    step_at-least : (i r : ℕ) → i + r ≡ j → Below (on (suc i)) (step (on i))
    step_at-least i r e = below_by n (on (suc i)) (step (on i)) (on-sized (suc i)) (λ c b.
        let b' : c < length t = omega arith in
        let behind : ℕ → ℕ = λ k. min (get_or d k 0) (get_or d c 0) in
        let o = over_moved (r * get_or d c 0) t j i behind (λ k. get_or d k 0)
        (λ k. rw (← e) (lag i r (get_or d k 0) (get_or d c 0))) in
        let z : j * get_or d c 0 ≡ i * get_or d c 0 + r * get_or d c 0 = rw (← e) (add-mul i r (get_or d c 0)) in
        omega (
          arith,
          (N.near (r * get_or d c 0) (on i) (moved t j behind) (on-sized i) (length_moved t j behind ∙ l) o).at c,
          (S.slower c b').is,
          moved_at t (suc i) (λ k. get_or d k 0) c b',
          suc-mul i (get_or d c 0),
        ))

    pub at_least : (i : ℕ) → i ≤ suc j → Below (on i) (iterate i step t)
    at_least zero h = below_by n (on 0) t (on-sized 0) (λ c b. omega (arith, at-start c (omega arith)))
    at_least (suc i) h =
        below_trans (step_at-least i (j - i) (omega arith))
        (near-monotone n step N (on i) (iterate i step t) (on-sized i) (iterated_sized i) (at_least i (omega arith)))

  -- rises that are both are the rises
  pub straight : AtMost step t d j → AtLeast step t d j → (i : ℕ) → i ≤ suc j → iterate i step t ≡ on i
  straight M L i h = below_antisymm (iterated_sized i ∙ sym (on-sized i)) (at_most M i h) (at_least L i h)
