-- What holds of the call that converts former sheets (02, point 7), for every sheet and lent buffer: "the good tables
-- before and after are the same set". Where it refuses stands in `answers`, and in `Numbers` as it is computed.
use Rattle.std.specs.Prelude.{◌≡◌, ◌↔◌, List, ℕ, suc, ◌+◌, ◌≤◌, length}
use Rattle.refusal.specs.Refusal.{number_of, refusal}
use Rattle.refusal.specs.declared.Cause.TheVariants.{RetiredKind}
use Rattle.refusal.specs.declared.Refusal.{Refusal}
use Rattle.network.specs.Limits as L
use Rattle.network.specs.Solution.{Solution}
use Rattle.network.specs.Least.{Least, Inconsistent}
use Rattle.network.specs.declared.Network.{Network}
use Rattle.sheet.specs.Reading.{network_of, Accepts}
use Rattle.sheet.specs.Fault.{Fault}
use Rattle.layout.specs.Layout.{text_of}
use Rattle.conversion.specs.FormerSheet.{FormerLayout, FormerContains, FirstFix}
use Rattle.conversion.specs.FormerTables.{FormerSolution, FormerLeast, FormerNone}
use Rattle.conversion.specs.Rows.{fixes}
use Rattle.conversion.specs.FormerRules.{read_as_max_lem, heading_line}
use Rattle.conversion.specs.FormerFault.{FormerFault}
use Rattle.conversion.specs.Converted.{resulting, converted, converted_contents, SameBytes}
use Rattle.calls.specs.Values.{Values, turned_away, number_values}
use Rattle.calls.specs.Lent.{Lent, in_place_lem}
use Rattle.calls.specs.Calls.{converting}
use Rattle.calls.specs.Answers.{Reads, AnswersIntoBy, WroteInto, WroteText}
use Rattle.calls.specs.Numbers.{converts}

-- the sheet has the layout of a former sheet, and Γ is a network that holds what it contains
pub record FormerReads (sheet : List ℕ) (Γ : Network) : Type 0 where
  pub layout : FormerLayout sheet
  pub holds : FormerContains sheet Γ layout.contents

-- no more rules result of it than a sheet may have, and t is what it becomes
pub record Conversion (sheet : List ℕ) (Γ : Network) (t : List ℕ) : Type 0 where
  pub reads : FormerReads sheet Γ
  pub few : resulting sheet Γ ≤ L.rules
  pub text : t ≡ converted sheet Γ

-- t is what the sheet becomes: the same bytes but for the count and the `fix` rows, a sheet of today with exactly the
-- former sheet's good tables, so with the same least one, or none
pub record ConvertedTo (sheet : List ℕ) (Γ : Network) (reads : FormerReads sheet Γ) (t : List ℕ) : Type 0 where
  pub bytes : SameBytes sheet Γ t
  pub network : Network
  pub accepted : Reads t network
  pub good : (σ : List ℕ) → FormerSolution reads.layout.contents Γ σ ↔ Solution network σ
  pub least : (σ : List ℕ) → FormerLeast reads.layout.contents Γ σ ↔ Least network σ
  pub none : FormerNone reads.layout.contents Γ ↔ Inconsistent network

-- the call answers by the former rules: with the fault that the sheet has by them, and of a sheet with their layout 17
-- and 12 exactly where these hold
abbrev pub AnswersFormer : List ℕ → List ℕ → Values ℕ → List ℕ → Type 0
AnswersFormer sheet before v after =
    AnswersIntoBy (FormerFault sheet) (FormerReads sheet) (converts sheet before) before v after

-- and where there is room for the rules that result and for the text, it has written the converted sheet
abbrev pub WritesConverted : List ℕ → Lent → Values ℕ → List ℕ → Type 0
WritesConverted sheet m v after =
    (Γ : Network) (reads : FormerReads sheet Γ) → resulting sheet Γ ≤ L.rules
    → (t : List ℕ) × ConvertedTo sheet Γ reads t × (length t ≤ m.room → WroteInto t m v after)

pub record Converting : Type 0 where
  -- the converter reads exactly the sheets that have the layout of a former sheet, into a network that holds what they
  -- contain, and refuses the others with the fault that they have by the former rules
  pub reads_former : (sheet : List ℕ) → Accepts (read_as_max_lem sheet) ↔ FormerLayout sheet
  pub read_into : (sheet : List ℕ) (l : FormerLayout sheet)
      → FormerContains sheet (network_of (read_as_max_lem sheet)) l.contents
  pub refuses_former : (sheet : List ℕ) (r : Refusal) → Fault (read_as_max_lem sheet) r ↔ FormerFault sheet r
  pub refused : (sheet m : List ℕ) (r : Refusal) → FormerFault sheet r
      → (number_values (converting sheet m).answer ≡ turned_away 0 r) × ((converting sheet m).memory ≡ m)
  -- "Sheets that still hold it are no longer read by any call but a converter": today's reader accepts none of them.
  -- One that the former rules accept is refused with 22 and the line of its first `fix` row; a sheet without such a row
  -- is never refused with 22, and the converter never answers it
  pub read_by : (sheet : List ℕ) (Γ : Network) → Reads sheet Γ → fixes sheet ≡ 0
  pub turned_away : (sheet : List ℕ) (Γ : Network) (r : FormerReads sheet Γ) → (fixes sheet ≡ 0 → ⊥)
      → (i : ℕ) × FirstFix r.layout.contents i × Fault sheet (refusal RetiredKind (suc (suc (heading_line Γ) + i)))
  pub for_fix : (sheet : List ℕ) (r : Refusal) → Fault sheet r → number_of r.cause ≡ 22 → fixes sheet ≡ 0 → ⊥
  pub never : (sheet m : List ℕ) → (number_values (converting sheet m).answer).number ≡ 22 → ⊥
  pub answers : (sheet m : List ℕ)
      → let l = converting sheet m in AnswersFormer sheet m (number_values l.answer) l.memory
  pub writes : (sheet m : List ℕ)
      → let l = converting sheet m in WritesConverted sheet (in_place_lem m) (number_values l.answer) l.memory
  -- where there is room the converted sheet is written, and everything behind it is unaltered
  pub written : (sheet m t : List ℕ) (Γ : Network) → Conversion sheet Γ t → length t ≤ length m
      → WroteText t m (converting sheet m)
  -- it is the text of what the former sheet contains, with a `max` and a `min` rule in the place of each `fix`
  pub contents : (sheet t : List ℕ) (Γ : Network) (c : Conversion sheet Γ t)
      → t ≡ text_of (converted_contents c.reads.layout.contents)
  -- today's reader accepts it
  pub accepted : (sheet t : List ℕ) (Γ : Network) → Conversion sheet Γ t → (Δ : Network) × Reads t Δ
  -- and its good tables are the former sheet's: so it has the same least table, or none
  pub good : (sheet t : List ℕ) (Γ Δ : Network) (c : Conversion sheet Γ t) → Reads t Δ → (σ : List ℕ)
      → FormerSolution c.reads.layout.contents Γ σ ↔ Solution Δ σ
  pub least : (sheet t : List ℕ) (Γ Δ : Network) (c : Conversion sheet Γ t) → Reads t Δ → (σ : List ℕ)
      → FormerLeast c.reads.layout.contents Γ σ ↔ Least Δ σ
  pub none : (sheet t : List ℕ) (Γ Δ : Network) (c : Conversion sheet Γ t) → Reads t Δ
      → FormerNone c.reads.layout.contents Γ ↔ Inconsistent Δ
  -- "every other byte but the count of rules stays"; and as only rows are `fix` rows, as many rows result as 17 asks
  -- about
  pub bytes : (sheet : List ℕ) (Γ : Network) → FormerReads sheet Γ → SameBytes sheet Γ (converted sheet Γ)
  -- a sheet without `fix` is read as it stands, so that it is refused as every call refuses it; one that is accepted
  -- comes back byte for byte
  pub as_it_stands : (sheet : List ℕ) → fixes sheet ≡ 0 → read_as_max_lem sheet ≡ sheet
  pub unchanged : (sheet m : List ℕ) (Γ : Network) → Reads sheet Γ → length sheet ≤ length m
      → WroteText sheet m (converting sheet m)
  -- so a second pass changes no byte
  pub second_pass : (sheet t m : List ℕ) (Γ : Network) → Conversion sheet Γ t → length t ≤ length m
      → WroteText t m (converting t m)
