-- What the texts mean that the programs print. No memory that they lend the calls is too short.
use Rattle.std.specs.Prelude.{◌≡◌, ◌↔◌, List, [], ◌∷◌, ◌++◌, ℕ, ◌≤◌, ◌<◌}
use Rattle.prelude.specs.Bytes.{ascii}
use Rattle.text.specs.Lines.{line_feed}
use Rattle.refusal.specs.Refusal.{refusal}
use Rattle.refusal.specs.declared.Cause.TheVariants.{OtherForm, NoMinute}
use Rattle.refusal.specs.declared.Refusal.{Refusal}
use Rattle.network.specs.Limits as L
use Rattle.network.specs.Solution.{Solution}
use Rattle.network.specs.Least.{Least, Inconsistent}
use Rattle.network.specs.declared.Network.{Network}
use Rattle.sheet.specs.Fault.{Fault}
use Rattle.checker.specs.First.{First}
use Rattle.checker.specs.declared.Breach.{Breach}
use Rattle.listing.specs.Listing.{header, listing}
use Rattle.readback.specs.Form.{Misfit, Unread}
use Rattle.conversion.specs.FormerFault.{FormerFault}
use Rattle.conversion.specs.Converted.{resulting}
use Rattle.heaviest.specs.Asks.{Asks}
use Rattle.heaviest.specs.Heaviest.{Heaviest}
use Rattle.heaviest.specs.Fault.{Fault as LineFault}
use Rattle.calls.specs.Values.{turned_away, refused_as}
use Rattle.calls.specs.Bench.{breach_values}
use Rattle.calls.specs.Table.{refused_text, verdict_text, table_text, form_text, converted_text, heaviest_text}
use Rattle.calls.specs.Table.{judge_text}
use Rattle.calls.specs.ReadingBack.{Printable}
use Rattle.calls.specs.Answers.{Reads}
use Rattle.calls.specs.Housing.{HouseForm}
use Rattle.calls.specs.Converting.{FormerReads, ConvertedTo}

-- what `table` prints of a sheet: "the solver's listing", that of the least good table, "or `refused N line L` with the
-- number and the line": the sheet's own refusal, and 13
pub record PrintsTable (sheet text : List ℕ) : Type 0 where
  pub refused : (r : Refusal) → Fault sheet r → text ≡ refused_text (turned_away 0 r)
  pub none : (Γ : Network) → Reads sheet Γ → Inconsistent Γ → text ≡ refused_text (refused_as 13)
  pub table : (σ : List ℕ) (Γ : Network) → Reads sheet Γ → Least Γ σ → text ≡ listing sheet Γ σ

-- `house`: the sheet in its house form
pub record PrintsForm (sheet text : List ℕ) : Type 0 where
  pub refused : (r : Refusal) → Fault sheet r → text ≡ refused_text (turned_away 0 r)
  pub form : (Γ : Network) → Reads sheet Γ → HouseForm sheet Γ text

-- `convert`: the converted sheet; what refuses it are the former rules, and 17
pub record PrintsConverted (sheet text : List ℕ) : Type 0 where
  pub refused : (r : Refusal) → FormerFault sheet r → text ≡ refused_text (turned_away 0 r)
  pub many : (Γ : Network) → FormerReads sheet Γ → L.rules < resulting sheet Γ
      → text ≡ refused_text (refused_as 17)
  pub converted : (Γ : Network) (reads : FormerReads sheet Γ) → resulting sheet Γ ≤ L.rules
      → ConvertedTo sheet Γ reads text

-- `ring`: the heaviest sheet that the line asks for
pub record PrintsRing (line text : List ℕ) : Type 0 where
  pub refused : (r : Refusal) → LineFault line r → text ≡ refused_text (turned_away 0 r)
  pub ring : (n h : ℕ) → Asks line n h → Heaviest n h text

-- `judge`: "the line that `table` prints for a refusal", the sheet's own first, then 18 and 19; otherwise the listing
-- is that of a table, and `pass` is printed exactly where that is a good one, and else the first breach
pub record PrintsVerdict (sheet printed text : List ℕ) : Type 0 where
  pub refused : (r : Refusal) → Fault sheet r → text ≡ refused_text (turned_away 0 r)
  pub misfit : (Γ : Network) (l : ℕ) → Reads sheet Γ → Misfit (header sheet Γ) Γ.signals Γ.events printed l
      → text ≡ refused_text (turned_away 0 (refusal OtherForm l))
  pub unread : (Γ : Network) (l : ℕ) → Reads sheet Γ → Unread (header sheet Γ) Γ.signals Γ.events printed l
      → text ≡ refused_text (turned_away 0 (refusal NoMinute l))
  pub passes : (Γ : Network) → Reads sheet Γ
      → (text ≡ ascii "pass" ++ line_feed ∷ [])
      ↔ ((σ : List ℕ) × Solution Γ σ × (printed ≡ listing sheet Γ σ))
  pub breach : (σ : List ℕ) (Γ : Network) (b : Breach) → Reads sheet Γ → Printable Γ σ → printed ≡ listing sheet Γ σ
      → First Γ σ b → text ≡ verdict_text (breach_values b)

pub record Printing : Type 0 where
  pub table : (sheet : List ℕ) → PrintsTable sheet (table_text sheet)
  pub house : (sheet : List ℕ) → PrintsForm sheet (form_text sheet)
  pub convert : (sheet : List ℕ) → PrintsConverted sheet (converted_text sheet)
  pub ring : (line : List ℕ) → PrintsRing line (heaviest_text line)
  pub judge : (sheet printed : List ℕ) → PrintsVerdict sheet printed (judge_text sheet printed)
