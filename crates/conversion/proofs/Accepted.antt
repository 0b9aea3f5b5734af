-- A former sheet, and what it becomes where no more rows result than a sheet may have: the converted sheet is accepted
-- and short, its good tables are the former sheet's, and a second pass changes nothing. Assumes nothing.
use mathlib.Core.Path.{◌≡◌, ◌∙◌, ap, subst}
use mathlib.Core.Logic.{◌↔◌}
use mathlib.Core.List.{List}
use Prim.Native.Nat.{ℕ, ◌≤◌}
use native.Mathlib.Omega.{arith}
use lib.ListN.{length}
use Rattle.std.specs.Prelude.{Ok}
use Rattle.network.specs.Limits as L
use Rattle.network.specs.Solution.{Solution}
use Rattle.network.specs.declared.Network.{Network}
use Rattle.sheet.specs.Reading.{read, Accepts, network_of}
use Rattle.sheet.proofs.WellFormed.{accepts}
use Rattle.layout.specs.Contains.{Contains}
use Rattle.layout.specs.Keeps.{Keeps}
use Rattle.layout.specs.Layout.{Layout}
use Rattle.layout.specs.Most.{most_form}
use Rattle.layout.proofs.Short.{length-text}
use Rattle.layout.proofs.Accepted.{accepted_iff, network-contains}
use Rattle.tighten.proofs.Agree.{Agree}
use Rattle.conversion.specs.Rows.{fixes}
use Rattle.conversion.specs.FormerSheet.{FormerLayout}
use Rattle.conversion.specs.FormerTables.{FormerSolution}
use Rattle.conversion.specs.FormerRules.{read_as_max_lem}
use Rattle.conversion.specs.Converted.{resulting, converted}
use Rattle.conversion.proofs.FormerLayout.{former_iff}
use Rattle.conversion.proofs.ReadInto.{read_into}
use Rattle.conversion.proofs.Given.{Given}
use Rattle.conversion.proofs.Text.{becomes, length_results, converted-text}
use Rattle.conversion.proofs.Results.{results_keep}
use Rattle.conversion.proofs.Tables.{agrees, same_tables}
use Rattle.conversion.proofs.Unchanged.{read_as_max-without, converted-without}
use Rattle.conversion.proofs.NoFix.{fixes-text}

-- a sheet that today's reader accepts has no `fix` row
pub accepted-plain : (sheet : List ℕ) → Accepts sheet → fixes sheet ≡ 0
accepted-plain sheet a =
    let l = (accepted_iff sheet).0 a in
    ap fixes l.written ∙ fixes-text l.contents l.keeps

-- a former sheet and the network that it is read into
abbrev pub given_of : (sheet : List ℕ) → FormerLayout sheet → Given sheet (network_of (read_as_max_lem sheet))
given_of sheet l = record {
  contents = l.contents;
  keeps = l.keeps;
  written = l.written;
  holds = read_into sheet l;
}

given : (sheet : List ℕ) (Γ : Network) → read (read_as_max_lem sheet) ≡ Ok Γ → Given sheet Γ
given sheet Γ a =
    let is = accepts (read_as_max_lem sheet) Γ a in
    subst (Given sheet) is.1 (given_of sheet ((former_iff sheet).0 is.0))

-- what it becomes
module _ {sheet : List ℕ} {Γ : Network} (g : Given sheet Γ) (few : resulting sheet Γ ≤ L.rules) where
  abbrev new : List ℕ
  new = converted sheet Γ

  becomes-keeps : Keeps (becomes g)
  becomes-keeps = results_keep g (omega (arith, length_results g))

  new-short : length new ≤ most_form
  new-short = rw (converted-text g) (length-text (becomes g) becomes-keeps)

  abbrev new_layout : Layout new
  new_layout = record {
    contents = becomes g;
    keeps = becomes-keeps;
    written = converted-text g;
    short = omega (arith, new-short);
  }

  pub converted-accepted : Accepts new
  converted-accepted = (accepted_iff new).1 new_layout

  new-contains : Contains new (network_of new) (becomes g)
  new-contains = network-contains new new_layout

  pub converted_agrees : Agree Γ (network_of new)
  converted_agrees = agrees g new-contains

  pub converted-tables : (σ : List ℕ) → FormerSolution g.contents Γ σ ↔ Solution (network_of new) σ
  converted-tables = same_tables g new-contains

pub converted-short : (sheet : List ℕ) (Γ : Network) → read (read_as_max_lem sheet) ≡ Ok Γ
    → resulting sheet Γ ≤ L.rules → length (converted sheet Γ) ≤ most_form
converted-short sheet Γ a few = new-short (given sheet Γ a) few

-- of a sheet that today's reader accepts, as the converted one is, nothing is changed
pub accepted-unchanged : (sheet : List ℕ) → Accepts sheet → converted sheet (network_of sheet) ≡ sheet
accepted-unchanged sheet a =
    let none = accepted-plain sheet a in
    converted-without (given sheet (network_of sheet) (rw (read_as_max-without sheet none) a)) none
