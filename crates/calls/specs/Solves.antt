-- What the answer of the call that solves a sheet means, and what it leaves in the memory that it is lent: "for every
-- accepted sheet and lent table long enough, the program refuses with \"no table\" exactly when the sheet has no good
-- table; otherwise it writes a good table in which each event, in each case, is no later than in any other good table,
-- and leaves everything behind it unaltered".
use Rattle.std.specs.Prelude.{◌≡◌, ◌↔◌, List, ℕ, ◌≤◌}
use Rattle.network.specs.Build.{cells}
use Rattle.network.specs.Least.{Least, Inconsistent}
use Rattle.network.specs.declared.Network.{Network}
use Rattle.solver.specs.Rounds.{Counted}
use Rattle.calls.specs.Values.{Values, refused_as}
use Rattle.calls.specs.Lent.{Lent}
use Rattle.calls.specs.Answers.{Reads, WroteInto}

module _ (sheet : List ℕ) (m : Lent) (v : Values ℕ) where
  -- where there is room, 13 exactly if the network is not dynamically consistent
  abbrev pub RefusesNone : Type 0
  RefusesNone = (Γ : Network) → Reads sheet Γ → cells Γ ≤ m.room → (v ≡ refused_as 13) ↔ Inconsistent Γ

  -- otherwise the least solution
  abbrev pub WritesLeast : List ℕ → Type 0
  WritesLeast after =
      (Γ : Network) → Reads sheet Γ → cells Γ ≤ m.room → (Inconsistent Γ → ⊥)
      → (σ : List ℕ) × Least Γ σ × WroteInto σ m v after

  -- the count of rounds that goes with a table and with 13 is that of plain rounds, one after another, whatever was
  -- passed over at once; it is from 1 to C × H + 1. With any other refusal it is 0
  pub record CountsRounds (k : ℕ) : Type 0 where
    pub counted : (Γ : Network) → Reads sheet Γ → cells Γ ≤ m.room → Counted Γ k
    pub none : (v.number ≡ 0 → ⊥) → (v.number ≡ 13 → ⊥) → k ≡ 0
