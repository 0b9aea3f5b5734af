-- The calls that fill a table with minutes: the solver, within so many rounds too, and the reader of listings. Assumes
-- nothing.
use mathlib.Core.Path.{◌≡◌}
use mathlib.Core.Bool.{Bool, true, false, ◌||◌, cond}
use mathlib.Core.List.{List, [], ◌∷◌}
use Prim.Native.Nat.{ℕ}
use lib.Dec.{leb}
use lib.ListN.{length}
use Rattle.prelude.specs.Checks.{Hold}
use Rattle.refusal.specs.declared.Cause.TheVariants.{BufferTooShort, NoRounds, Inconsistent}
use Rattle.network.specs.Build.{cells}
use Rattle.network.specs.WellFormed.{WellFormed}
use Rattle.network.specs.declared.Network.{Network}
use Rattle.sheet.specs.Reading.{network_of, Accepts}
use Rattle.sheet.proofs.WellFormed.{accepted_well_formed}
use Rattle.solver.specs.Solve.{solve, found}
use Rattle.solver.specs.Stopped.{stops, floor_after}
use Rattle.solver.proofs.Least.{solve-least}
use Rattle.solver.proofs.Stopped.{length-floor}
use Rattle.listing.specs.Listing.{header}
use Rattle.readback.proofs.RoundTrip.{length-recovered}
use Rattle.calls.specs.Call.{without_line_lem, Tests}
use Rattle.calls.specs.Calls.{rests}
use Rattle.calls.specs.Recover.{recovery_tests, recovered_in}
use Rattle.calls.proofs.Solving.{rests-true}

-- a call that fills a table: its tests, one of which is that there is room for the table, and the minutes of it
pub record Fills (sheet : List ℕ) : Type 0 where
  pub tests : Bool → Network → Tests
  pub text : Network → List ℕ
  pub sized : Accepts sheet → (roomy : Bool) → Hold (tests roomy (network_of sheet))
      → (length (text (network_of sheet)) ≡ cells (network_of sheet)) × (roomy ≡ true)

abbrev pub solver_fills : (sheet : List ℕ) → Fills sheet
solver_fills sheet = record {
  tests = λ roomy Γ. (roomy, without_line_lem BufferTooShort) ∷ (rests (solve Γ).end, without_line_lem Inconsistent) ∷
      [];
  text = λ Γ. found Γ;
  sized = λ a roomy h.
      let Γ = (network_of sheet) in
      ((solve-least Γ (accepted_well_formed sheet a).0 ((rests-true (solve Γ).end).0 h.1.0)).solves.sized, h.0);
}

abbrev pub within_fills : (sheet : List ℕ) (n : ℕ) → Fills sheet
within_fills sheet n = record {
  tests = λ roomy Γ.
      (roomy, without_line_lem BufferTooShort)
      ∷ (leb 1 n, without_line_lem NoRounds)
      ∷ (stops Γ n || rests (solve Γ).end, without_line_lem Inconsistent)
      ∷ [];
  text = λ Γ. cond (stops Γ n) (floor_after Γ n) (found Γ);
  sized = λ a roomy h.
      let Γ = network_of sheet in
      (by_stop Γ (accepted_well_formed sheet a).0 (stops Γ n) h.1.1.0, h.0);
}
  where
    by_stop : (Γ : Network) → WellFormed Γ → (b : Bool) → b || rests (solve Γ).end ≡ true
        → length (cond b (floor_after Γ n) (found Γ)) ≡ cells Γ
    by_stop Γ w true e = length-floor Γ n
    by_stop Γ w false e = (solve-least Γ w ((rests-true (solve Γ).end).0 e)).solves.sized

abbrev pub reader_fills : (sheet bytes : List ℕ) → Fills sheet
reader_fills sheet bytes = record {
  tests = λ roomy Γ.
      recovery_tests (header sheet Γ) Γ.signals Γ.events bytes (roomy, without_line_lem BufferTooShort);
  text = recovered_in sheet bytes;
  sized = λ a roomy h.
      let Γ = (network_of sheet) in
      (length-recovered (header sheet Γ) Γ.signals Γ.events bytes, h.1.1.0);
}
