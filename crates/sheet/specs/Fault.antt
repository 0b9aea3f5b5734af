-- Why a sheet is refused, said of its lines and of no reader: "Lines are read from the top and the first line at fault
-- decides; on one line the lowest number does" (01, Refused sheets and calls), but 22 directly after 3 (02, point 7).
use Rattle.std.specs.Prelude.{◌≡◌, false, ◌⊎◌, List, [], ◌∷◌, ℕ, suc, ◌≤◌, ◌<◌, length}
use Rattle.prelude.specs.Checks.{Hold, FirstFails}
use Rattle.refusal.specs.Refusal.{refusal}
use Rattle.refusal.specs.declared.Cause.{Cause}
use Rattle.refusal.specs.declared.Cause.TheVariants.{TooLong}
use Rattle.refusal.specs.declared.Refusal.{Refusal}
use Rattle.line.specs.Tests.{Tests}
use Rattle.sheet.specs.Reading.{longest}
use Rattle.sheet.specs.Place.{tests}

-- where the lines have these tests: each line above passes all of its own; of the line's, the one that names the cause
-- fails, and those before it hold
pub record FirstFaultBy (tests_of : ℕ → Tests) (r : Refusal) : Type 0 where
  pub above : ℕ
  pub line : r.line ≡ suc above
  pub pass : (j : ℕ) → j < above → Hold (tests_of j)
  pub fault : FirstFails (tests_of above) r.cause

abbrev pub FirstFault : List ℕ → Refusal → Type 0
FirstFault sheet r = FirstFaultBy (tests sheet) r

-- one of the tests fails and names c; of all these the cause of the first fault has the lowest turn (`fault-lowest`)
abbrev pub Fails : Tests → Cause → Type 0
Fails [] c = ⊥
Fails (t ∷ ts) c = ((t.0 ≡ false) × (t.1 ≡ c)) ⊎ Fails ts c

-- "The sheet is longer than 4,096 bytes", of which no line is to blame; or the first line at fault
abbrev pub FaultBy : (ℕ → Tests) → List ℕ → Refusal → Type 0
FaultBy tests_of sheet r =
    ((longest < length sheet) × (r ≡ refusal TooLong 0)) ⊎ ((length sheet ≤ longest) × FirstFaultBy tests_of r)

abbrev pub Fault : List ℕ → Refusal → Type 0
Fault sheet r = FaultBy (tests sheet) sheet r
