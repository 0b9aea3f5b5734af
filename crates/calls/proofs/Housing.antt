-- What holds of the house form, cited from where it is proved. Assumes nothing.
use mathlib.Core.Path.{◌≡◌, refl, sym}
use mathlib.Core.Logic.{◌↔◌}
use mathlib.Core.List.{List}
use Prim.Native.Nat.{ℕ, ◌≤◌}
use lib.ListN.{length}
use Rattle.network.specs.declared.Network.{Network}
use Rattle.network.proofs.Least.{same-least, same_inconsistent}
use Rattle.sheet.specs.Reading.{network_of, Accepts}
use Rattle.tighten.specs.Tightest.{remaining_of}
use Rattle.tighten.proofs.Agree.{same-events}
use Rattle.tighten.proofs.Few.{remaining_of-few}
use Rattle.tighten.proofs.Regular.{uppers_regular}
use Rattle.tighten.proofs.Remains.{remaining-is, remaining_unique}
use Rattle.canonical.specs.House.{house_text}
use Rattle.canonical.specs.Same.{Same}
use Rattle.canonical.proofs.Again.{form-accepted, form_agrees, form-again, form-tables}
use Rattle.canonical.proofs.Forms.{forms-equal}
use Rattle.calls.specs.Calls.{housed}
use Rattle.calls.specs.Answers.{Reads, WroteText}
use Rattle.calls.specs.Housing.{Form, SameTables, HouseForm, Housing}
use Rattle.calls.proofs.Call.{reads_well_formed}
use Rattle.calls.proofs.Writing.{house-wrote}

-- a form by its sheet alone: the network and the bytes are told by it
by-sheet {ℓ} : (P : List ℕ → Network → List ℕ → Type ℓ)
    → ((sheet : List ℕ) → Accepts sheet
    → P sheet (network_of sheet) (house_text sheet (network_of sheet)))
    → (sheet f : List ℕ) (Γ : Network) → Form sheet Γ f → P sheet Γ f
by-sheet P h sheet f Γ form =
    let n = form.reads.network in
    rw (form.form, ← n) (h sheet form.reads.accepted)

all-written : (sheet m f : List ℕ) (Γ : Network) → Form sheet Γ f → length f ≤ length m → WroteText f m (housed sheet m)
all-written sheet m f Γ form =
    by-sheet (λ sheet Γ f. length f ≤ length m → WroteText f m (housed sheet m)) (λ sheet a. house-wrote sheet m a)
    sheet f Γ form

again : (sheet f : List ℕ) (Γ : Network) → Form sheet Γ f → (Δ : Network) × Form f Δ f
again =
    by-sheet (λ sheet Γ f. (Δ : Network) × Form f Δ f)
    (λ sheet a. (
      _,
      record {
        reads = record { accepted = form-accepted sheet a; network = refl };
        form = sym (form-again sheet a);
      },
    ))

second_pass : (sheet f m : List ℕ) (Γ : Network) → Form sheet Γ f → length f ≤ length m
    → WroteText f m (housed f m)
second_pass sheet f m Γ form l = let own = again sheet f Γ form in all-written f m f own.0 own.1 l

tables : (sheet f : List ℕ) (Γ Δ : Network) → Form sheet Γ f → Reads f Δ → SameTables Γ Δ
tables sheet f Γ Δ form reads =
    by-sheet (λ sheet Γ f. (Δ : Network) → network_of f ≡ Δ → SameTables Γ Δ)
    (λ sheet a Δ n. rw (← n)
    (let good = form-tables sheet a in
    let events = same-events (form_agrees sheet a) in
    record { good = good; least = same-least events good; none = same_inconsistent events good }))
    sheet f Γ form Δ reads.network

-- the form that is written, told by what it contains
form : (sheet : List ℕ) (Γ : Network) → Reads sheet Γ → Form sheet Γ (house_text sheet Γ)
form sheet Γ reads = record { reads = reads; form = refl }

pub house_form : (sheet : List ℕ) (Γ : Network) → Reads sheet Γ → HouseForm sheet Γ (house_text sheet Γ)
unfolding house_text
house_form sheet Γ reads =
    let own = again sheet (house_text sheet Γ) Γ (form sheet Γ reads) in
    record {
      rows = remaining_of Γ;
      remain = remaining-is (uppers_regular Γ (reads_well_formed reads));
      text = refl;
      network = own.0;
      own = own.1;
      tables = tables sheet (house_text sheet Γ) Γ own.0 (form sheet Γ reads) own.1.reads;
    }

equal : (sheet other f g : List ℕ) (Γ Δ : Network) → Form sheet Γ f → Form other Δ g → (f ≡ g) ↔ Same sheet Γ other Δ
equal sheet other f g Γ Δ form form' =
    by-sheet (λ sheet Γ f. (f ≡ g) ↔ Same sheet Γ other Δ)
    (λ sheet a.
    by-sheet (λ other Δ g. (house_text sheet (network_of sheet) ≡ g) ↔ Same sheet (network_of sheet) other Δ)
    (λ other b. forms-equal sheet a other b) other g Δ form')
    sheet f Γ form

pub housing : Housing
housing = record {
  few = λ sheet Γ reads. remaining_of-few Γ (reads_well_formed reads);
  writes = λ sheet m Γ reads. (
    house_text sheet Γ,
    house_form sheet Γ reads,
    all-written sheet m (house_text sheet Γ) Γ (form sheet Γ reads),
  );
  written = all-written;
  rows = λ sheet Γ reads. remaining-is (uppers_regular Γ (reads_well_formed reads));
  rows_alone = λ sheet Γ rs reads is. remaining_unique (uppers_regular Γ (reads_well_formed reads)) is;
  again = again;
  second_pass = second_pass;
  tables = tables;
  equal = equal;
}
