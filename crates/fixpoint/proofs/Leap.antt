-- Rounds passed over at once. Where p rounds are seen to add d to t, and j times again (AtMost, AtLeast), j * p
-- rounds lead to t moved on j times by d. Where they are only seen to add at least e and at most d, the rounds from
-- there on lie between those from the two far lists: if the lower of these passes the cap in the round after one in
-- which the upper does not, so does the run; the fastest entries may then have a period that the others have not.
-- Assumes nothing.
use mathlib.Core.Path.{◌≡◌, sym, ◌∙◌, ap}
use mathlib.Core.Bool.{true, false}
use mathlib.Core.List.{List}
use Prim.Native.Nat.{ℕ, suc, ◌+◌, ◌*◌, ◌≤◌, ◌<◌}
use native.Mathlib.Nat.{suc-mul, add-suc}
use native.Mathlib.Omega.{arith}
use lib.ListN.{length, get_or}
use Rattle.prelude.proofs.Tests.{false_of_not-true, clash}
use Rattle.fixpoint.specs.Order.{Below}
use Rattle.fixpoint.specs.Step.{Rising}
use Rattle.fixpoint.specs.Near.{Nonexpansive}
use Rattle.fixpoint.specs.Iterate.{iterate}
use Rattle.fixpoint.specs.Run.{within}
use Rattle.fixpoint.specs.Straight.{moved, AtMost, AtLeast}
use Rattle.fixpoint.specs.Leads.{Leads, PassesIn}
use Rattle.fixpoint.proofs.Within.{within-below}
use Rattle.fixpoint.proofs.Iterate.{iterate-add, iterate-mul, iterate-sized, iterate_nonexpansive, near-monotone}
use Rattle.fixpoint.proofs.Moved.{moved_at}
use Rattle.fixpoint.proofs.Straight.{straight}
use Rattle.fixpoint.proofs.Leads.{leads_on}
use Rattle.fixpoint.proofs.Turns.{pass_turn}

module _ (step : List ℕ → List ℕ) (cap : List ℕ) (R : Rising (length cap) step) (N : Nonexpansive (length cap) step)
    (t : List ℕ)
    (l : length t ≡ length cap) where
  module _ (d : List ℕ) (p j : ℕ) (M : AtMost (iterate p step) t d j) (L : AtLeast (iterate p step) t d j) where
    abbrev far : ℕ → List ℕ
    far i = moved t i (λ k. get_or d k 0)

    -- where i times p rounds lead, up to one time more than was tested
    leap_iterate : (i : ℕ) → i ≤ suc j → iterate (i * p) step t ≡ far i
    leap_iterate i h =
        iterate-mul step i p t
        ∙ straight (length cap) (iterate p step) (iterate_nonexpansive (length cap) step N p) t d l j M L i h

    -- THE LEAP, where the far list is within the cap and some entry rises
    pub leads_leap : within cap (far j) ≡ true → (c : ℕ) → c < length t → 0 < get_or d c 0
        → Leads step cap (j * p) t (far j)
    leads_leap w c b up =
        let here = leap_iterate j (omega arith) in
        let more : iterate (j * p + p) step t ≡ far (suc j) = rw suc-mul at (leap_iterate (suc j) (omega arith)) in
        let led = leads_on step cap R t l (j * p) p (rw here w) (λ e.
        let z = ap (λ (s : List ℕ). get_or s c 0) (sym more ∙ e ∙ here) in
        omega (
          arith,
          moved_at t j (λ k. get_or d k 0) c b,
          moved_at t (suc j) (λ k. get_or d k 0) c b,
          suc-mul j
              (get_or d c 0),
        )) in
        rw here at led

  module _ (low high : List ℕ) (a : length low ≡ length cap) (b : length high ≡ length cap) (m q : ℕ)
      (above : Below low (iterate m step t)) (below : Below (iterate m step t) high)
      (in_cap : within cap (iterate q step high) ≡ true) (out : within cap (iterate (suc q) step low) ≡ false) where
    reached : List ℕ
    reached = iterate m step t

    reached-sized : length reached ≡ length cap
    unfolding reached
    reached-sized = iterate-sized step (length cap) R.sized m t l

    ordered : (k : ℕ) (u v : List ℕ) → length u ≡ length cap → length v ≡ length cap → Below u v
        → Below (iterate k step u) (iterate k step v)
    ordered k = near-monotone (length cap) (iterate k step) (iterate_nonexpansive (length cap) step N k)

    before_last : within cap (iterate (m + q) step t) ≡ true
    unfolding reached
    before_last =
        let under : Below (iterate (m + q) step t) (iterate q step high) =
        rw (iterate-add step m q t) (ordered q reached high reached-sized b below) in
        within-below cap under in_cap

    at_last : within cap (iterate (m + suc q) step t) ≡ false
    unfolding reached
    at_last =
        let over : Below (iterate (suc q) step low) (iterate (m + suc q) step t) =
        rw (iterate-add step m (suc q) t) (ordered (suc q) low reached a reached-sized above) in
        false_of_not-true (within cap (iterate (m + suc q) step t)) (λ w.
        clash (within cap (iterate (suc q) step low)) (within-below cap over w) out)

    -- THE END: every run passes the cap in round m + q + 1 from t, and not before
    pub passes-between : PassesIn step cap (m + suc q) t
    passes-between =
        let last : within cap (step (iterate (m + q) step t)) ≡ false = rw add-suc at at_last in
        let led : Leads step cap (m + q) t (iterate (m + q) step t) = leads_on step cap R t l (m + q) 1 before_last
        (λ e.
        let one : m + q + 1 ≡ m + suc q = omega arith in
        clash (within cap (iterate (m + q) step t)) before_last (rw (← e, one) at_last)) in
        record {
          last = step (iterate (m + q) step t);
          on = λ k n.
              let budget : m + suc q + n ≡ m + q + suc n = omega arith in
              let count : k + (m + suc q) ≡ suc (k + (m + q)) = omega arith in
              let passes = pass_turn step cap R (k + (m + q)) n (iterate (m + q) step t) last in
              rw (budget, count) (led.on k (suc n) ∙ passes);
        }
