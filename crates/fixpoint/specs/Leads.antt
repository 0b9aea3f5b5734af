-- What is known of a run some rounds on, without making them one by one.
use Rattle.std.specs.Prelude.{◌≡◌, true, List, ℕ, ◌+◌}
use Rattle.fixpoint.specs.Iterate.{iterate}
use Rattle.fixpoint.specs.Run.{within, Passes, ran, run_from}

module _ (step : List ℕ → List ℕ) (cap : List ℕ) where
  -- p rounds lead from t to u, and no run that comes to t with as many left ends before it comes to u
  pub record Leads (p : ℕ) (t u : List ℕ) : Type 0 where
    pub made : u ≡ iterate p step t
    pub inside : within cap t ≡ true → within cap u ≡ true
    pub on : (k n : ℕ) → run_from step cap k (p + n) t ≡ run_from step cap (k + p) n u

  -- every run that comes to t with as many rounds left passes the cap in round r from there
  pub record PassesIn (r : ℕ) (t : List ℕ) : Type 0 where
    pub last : List ℕ
    pub on : (k n : ℕ) → run_from step cap k (r + n) t ≡ ran (k + r) last Passes
