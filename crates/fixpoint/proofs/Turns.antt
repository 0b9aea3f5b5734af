-- The turns of a run: it rests, passes the cap or goes on. Assumes nothing.
use mathlib.Core.Path.{◌≡◌, ap}
use mathlib.Core.Bool.{true, false}
use mathlib.Core.List.{List}
use Prim.Native.Nat.{ℕ, suc}
use lib.ListN.{length}
use Rattle.prelude.specs.Bytes.{same}
use Rattle.fixpoint.specs.Step.{Rising}
use Rattle.fixpoint.specs.Run.{within, End, Rests, Passes, Spent, ran, run_from}

-- the three ends are three
abbrev pub ended : End → ℕ
ended Rests = 0
ended Passes = 1
ended Spent = 2

pub unlike {ℓ} : {A : Type ℓ} (e f : End) → e ≡ f → (ended e ≡ ended f → ⊥) → A
unlike e f p n = absurd (n (ap ended p))

module _ (step : List ℕ → List ℕ) (cap : List ℕ) (R : Rising (length cap) step) where
  -- one turn of a run: it rests, passes the cap or goes on
  pub rest_turn : (k n : ℕ) (t : List ℕ) → within cap (step t) ≡ true → same (step t) t ≡ true
      → run_from step cap k (suc n) t ≡ ran (suc k) t Rests
  rest_turn k n t p q = rw (p, q, run_from)

  pub pass_turn : (k n : ℕ) (t : List ℕ) → within cap (step t) ≡ false
      → run_from step cap k (suc n) t ≡ ran (suc k) (step t) Passes
  pass_turn k n t p = rw (p, run_from)

  pub more_turn : (k n : ℕ) (t : List ℕ) → within cap (step t) ≡ true → same (step t) t ≡ false
      → run_from step cap k (suc n) t ≡ run_from step cap (suc k) n (step t)
  more_turn k n t p q = rw (p, q, run_from)
