-- What the answer of the call that solves a sheet within n rounds means. Whether it is stopped is told by the count of
-- the whole run, which the network of each accepted sheet has (`Counted`, in the clause `rounds` of solving), and only
-- once (`takes_once`).
use Rattle.std.specs.Prelude.{◌≡◌, ◌↔◌, List, ℕ, ◌<◌, ◌≤◌}
use Rattle.network.specs.Build.{cells}
use Rattle.network.specs.Least.{Least, Inconsistent}
use Rattle.network.specs.declared.Network.{Network}
use Rattle.solver.specs.Rounds.{TakesRounds}
use Rattle.solver.specs.Stopped.{left, FloorAfter}
use Rattle.calls.specs.Values.{Values, refused_as}
use Rattle.calls.specs.Lent.{Lent}
use Rattle.calls.specs.Counting.{solved_values, counting_into}
use Rattle.calls.specs.Within.{Reach, NoRound, Finishes, Stops}
use Rattle.calls.specs.Answers.{Reads, WroteInto}

-- the sheet is accepted, and its network takes k rounds; there is room for its table, and n is not 0
pub record Runs (sheet : List ℕ) (n : ℕ) (m : Lent) (Γ : Network) (k : ℕ) : Type 0 where
  pub reads : Reads sheet Γ
  pub room : cells Γ ≤ m.room
  pub some : 1 ≤ n
  pub takes : TakesRounds Γ k

module _ (sheet : List ℕ) (n : ℕ) (m : Lent) (v : Values ℕ) (c : Reach) (after : List ℕ) where
  -- where it takes more rounds than n, the run is stopped after the nth, which raised a cell and passed no limit: the
  -- floor is written, and beside it stands what is left
  abbrev pub StopsAfter : Type 0
  StopsAfter =
      (Γ : Network) (k : ℕ) → Runs sheet n m Γ k → n < k
      → (σ : List ℕ) × FloorAfter Γ n σ × (c ≡ Stops (left Γ σ)) × WroteInto σ m v after

  -- where n are enough it finishes, and answers as solving does without n
  pub record AsWithout (k : ℕ) : Type 0 where
    pub reach : c ≡ Finishes k
    pub answer : v ≡ solved_values (counting_into sheet m).answer
    pub memory : after ≡ (counting_into sheet m).memory

  pub record FinishesWithin : Type 0 where
    pub as_without : (Γ : Network) (k : ℕ) → Runs sheet n m Γ k → k ≤ n → AsWithout k
    -- so it refuses with 13 exactly if the network is not dynamically consistent, and otherwise writes the least
    -- solution
    pub none : (Γ : Network) (k : ℕ) → Runs sheet n m Γ k → k ≤ n → (v ≡ refused_as 13) ↔ Inconsistent Γ
    pub least : (Γ : Network) (k : ℕ) → Runs sheet n m Γ k → k ≤ n → (Inconsistent Γ → ⊥)
        → (σ : List ℕ) × Least Γ σ × WroteInto σ m v after

-- with every refusal but 13 no round was made
abbrev pub MakesNoRound : Values ℕ → Reach → Type 0
MakesNoRound v c = (v.number ≡ 0 → ⊥) → (v.number ≡ 13 → ⊥) → c ≡ NoRound
