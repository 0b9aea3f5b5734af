-- The run that the solver makes: rounds from all zeros, until one raises nothing or passes a limit; and the table that
-- it finds.
use Rattle.std.specs.Prelude.{ℕ, List, replicate}
use Rattle.fixpoint.specs.Run.{Run, run}
use Rattle.network.specs.Limits as L
use Rattle.network.specs.Build.{cells}
use Rattle.network.specs.declared.Network.{Network}
use Rattle.rounds.specs.Propagate.{propagate}
use Rattle.rounds.specs.Cap.{cap}
use Rattle.solver.specs.Masked.{masked}

module _ (Γ : Network) where
  -- where a run starts
  abbrev pub floor : List ℕ
  floor = replicate (cells Γ) 0

  unfoldable pub solve : Run
  solve = run (propagate Γ) (cap Γ) floor

  -- the table that is handed out where the run rests: "A cell without its event holds 65,535" (02, point 6)
  abbrev pub found : List ℕ
  found = masked Γ L.blank solve.reached
