-- What holds of the call that writes a sheet in its house form (02, points 2, 3, 6 and 7), for every sheet and
-- lent buffer.
use Rattle.std.specs.Prelude.{◌≡◌, ◌↔◌, List, ℕ, ◌≤◌, length}
use Rattle.network.specs.Limits as L
use Rattle.network.specs.Solution.{Solution}
use Rattle.network.specs.Least.{Least, Inconsistent}
use Rattle.network.specs.declared.Constraint.{Constraint}
use Rattle.network.specs.declared.Network.{Network}
use Rattle.tighten.specs.Upper.{uppers_of}
use Rattle.tighten.specs.Remaining.{Remaining}
use Rattle.tighten.specs.Tightest.{remaining_of}
use Rattle.layout.specs.Layout.{text_of}
use Rattle.canonical.specs.House.{house_by, house_text}
use Rattle.canonical.specs.Same.{Same}
use Rattle.calls.specs.Values.{Values, number_values}
use Rattle.calls.specs.Lent.{Lent, in_place_lem}
use Rattle.calls.specs.Calls.{housed}
use Rattle.calls.specs.Answers.{Reads, WroteInto, WroteText}

-- the sheet's network is Γ, and f is its form
pub record Form (sheet : List ℕ) (Γ : Network) (f : List ℕ) : Type 0 where
  pub reads : Reads sheet Γ
  pub form : f ≡ house_text sheet Γ

-- two networks have the same good tables: the same least one, or none
pub record SameTables (Γ Δ : Network) : Type 0 where
  pub good : (σ : List ℕ) → Solution Γ σ ↔ Solution Δ σ
  pub least : (σ : List ℕ) → Least Γ σ ↔ Least Δ σ
  pub none : Inconsistent Γ ↔ Inconsistent Δ

-- f is a house form of the sheet, told by what it contains: the upper bounds that remain are its rules, and all else as
-- it is; it "reads back to the same good tables", and it is its own form
pub record HouseForm (sheet : List ℕ) (Γ : Network) (f : List ℕ) : Type 0 where
  pub rows : List Constraint
  pub remain : Remaining (uppers_of Γ) rows
  pub text : f ≡ text_of (house_by sheet Γ rows)
  pub network : Network
  pub own : Form f network f
  pub tables : SameTables Γ network

-- what the call that writes the form has written, where there is room, and everything behind it is unaltered
abbrev pub WritesForm : List ℕ → Lent → Values ℕ → List ℕ → Type 0
WritesForm sheet m v after =
    (Γ : Network) → Reads sheet Γ
    → (f : List ℕ) × HouseForm sheet Γ f × (length f ≤ m.room → WroteInto f m v after)

-- where it refuses stands in `Numbers`
pub record Housing : Type 0 where
  -- "the house form never meets 17 again" (02, point 7): no more rows remain than a sheet may have
  pub few : (sheet : List ℕ) (Γ : Network) → Reads sheet Γ → length (remaining_of Γ) ≤ L.rules
  pub writes : (sheet m : List ℕ)
      → let l = housed sheet m in WritesForm sheet (in_place_lem m) (number_values l.answer) l.memory
  -- where there is room the form is written, and everything behind it is unaltered
  pub written : (sheet m f : List ℕ) (Γ : Network) → Form sheet Γ f → length f ≤ length m
      → WroteText f m (housed sheet m)
  -- the rows in it are those that remain of the sheet's, in document 02's words, and no other list is
  pub rows : (sheet : List ℕ) (Γ : Network) → Reads sheet Γ → Remaining (uppers_of Γ) (remaining_of Γ)
  pub rows_alone : (sheet : List ℕ) (Γ : Network) (rs : List Constraint) → Reads sheet Γ → Remaining (uppers_of Γ) rs
      → rs ≡ remaining_of Γ
  -- the form is a sheet that is accepted, and it is its own form
  pub again : (sheet f : List ℕ) (Γ : Network) → Form sheet Γ f → (Δ : Network) × Form f Δ f
  -- "a second pass changes no byte": the call on the form writes the form
  pub second_pass : (sheet f m : List ℕ) (Γ : Network) → Form sheet Γ f → length f ≤ length m
      → WroteText f m (housed f m)
  -- "The form reads back to the same good tables"
  pub tables : (sheet f : List ℕ) (Γ Δ : Network) → Form sheet Γ f → Reads f Δ → SameTables Γ Δ
  -- "Two sheets give equal bytes if and only if their horizons, event lists, signal lists and remaining rows are
  -- equal", and "equal bytes now also means equal reactions", and "equal event labels"
  pub equal : (sheet other f g : List ℕ) (Γ Δ : Network) → Form sheet Γ f → Form other Δ g
      → (f ≡ g) ↔ Same sheet Γ other Δ
