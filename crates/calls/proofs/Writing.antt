-- The calls that write a text: the listing of a table that is handed in, the house form, and the converted sheet.
-- Assumes nothing.
use mathlib.Core.Path.{◌≡◌, refl, sym}
use mathlib.Core.Logic.{inl, ◌↔◌}
use mathlib.Core.Bool.{false}
use mathlib.Core.List.{List}
use Prim.Native.Nat.{ℕ, ◌≤◌, ◌<◌}
use borrow.Author.Tests.{leb-false, le-leb, lt-leb}
use lib.Dec.{leb}
use lib.ListN.{length}
use Rattle.refusal.specs.declared.Cause.TheVariants as C
use Rattle.network.specs.Limits as L
use Rattle.network.specs.declared.Network.{Network}
use Rattle.sheet.specs.Reading.{network_of, Accepts}
use Rattle.listing.specs.Listing.{listing}
use Rattle.canonical.specs.House.{house_text}
use Rattle.conversion.specs.FormerRules.{read_as_max_lem}
use Rattle.conversion.specs.Converted.{resulting, converted}
use Rattle.calls.specs.Values.{OrRefusal, number_values}
use Rattle.calls.specs.Call.{without_line_lem, Left}
use Rattle.calls.specs.Lent.{Handed, Lent, in_place_lem}
use Rattle.calls.specs.Calls.{writing, refusing, listing_tests, listing_of, house_tests, housed}
use Rattle.calls.specs.Calls.{convert_tests, converting}
use Rattle.calls.specs.Answers.{Writes, WroteInto, WroteText}
use Rattle.calls.specs.Numbers.{lists, houses, converts}
use Rattle.calls.proofs.Call.{call_fails, call_works}
use Rattle.calls.proofs.Matched.{unlined, writes_call}
use Rattle.calls.proofs.Handed.{Rightly}
use Rattle.calls.proofs.Fit.{few-fit, many_do_not, not-fit-many}

pub wrote_into : {l : Left (OrRefusal ℕ)} (m : Lent) (text : List ℕ) → writing m text ≡ l
    → WroteInto text m (number_values l.answer) l.memory
wrote_into m text e = rw (← e) (record { answer = refl; memory = refl })

pub wrote : {l : Left (OrRefusal ℕ)} (text m : List ℕ) → writing (in_place_lem m) text ≡ l → WroteText text m l
wrote text m e = wrote_into (in_place_lem m) text e

-- there is room, or there is not
short : (n m : ℕ) → (leb n m ≡ false) ↔ (m < n)
short n m = (leb-false n m, lt-leb n m)

module _ (sheet : List ℕ) (t : Handed) (right : Network → Type 0) (m : List ℕ) where
  abbrev net : Network
  net = network_of sheet

  abbrev text : Network → List ℕ
  text Γ = listing sheet Γ t.minutes

  pub lister_writes : (Accepts sheet → Rightly t right net)
      → Writes sheet (lists right sheet t.minutes m) (listing_of sheet t m) m
  lister_writes rightly =
      writes_call (in_place_lem m) sheet
      (listing_tests sheet t (in_place_lem m))
      (λ Γ. writing (in_place_lem m) (text Γ)) (lists right sheet t.minutes m) refl
      (λ a. (
        λ _. unlined refl refl,
        (rightly a).no,
        λ _. (λ _. unlined refl refl, short (length (text net)) (length m), λ _. tt),
      ))
      (λ Γ. (refl, refl))

  pub listing-wrote : Accepts sheet → Rightly t right net → right net → length (text net) ≤ length m
      → WroteText (text net) m (listing_of sheet t m)
  listing-wrote a rightly h room =
      wrote (text net) m
      (call_works (refusing (in_place_lem m)) sheet (listing_tests sheet t (in_place_lem m))
      (λ Γ. writing (in_place_lem m) (text Γ))
      (network_of sheet) a
      (rightly.yes.1 h, (le-leb (length (text net)) (length m) room, tt)))

module _ (sheet m : List ℕ) where
  abbrev form_work : Network → Left (OrRefusal ℕ)
  form_work Γ = writing (in_place_lem m) (house_text sheet Γ)

  pub house_writes : Writes sheet (houses sheet m) (housed sheet m) m
  house_writes =
      writes_call (in_place_lem m) sheet
      (house_tests sheet (in_place_lem m))
      form_work
      (houses sheet m) refl
      (λ a. (λ _. unlined refl refl, short (length (house_text sheet (network_of sheet))) (length m), λ _. tt))
      (λ Γ. (refl, refl))

  pub house-wrote : Accepts sheet → length (house_text sheet (network_of sheet)) ≤ length m
      → WroteText (house_text sheet (network_of sheet)) m (housed sheet m)
  house-wrote a room =
      wrote (house_text sheet (network_of sheet)) m
      (call_works (refusing (in_place_lem m)) sheet (house_tests sheet (in_place_lem m)) form_work
      (network_of sheet) a
      (le-leb _ (length m) room, tt))

-- the converter, which reads the sheet by the former rules
module _ (sheet m : List ℕ) where
  abbrev former : Network
  former = network_of (read_as_max_lem sheet)

  abbrev work : Network → Left (OrRefusal ℕ)
  work Γ = writing (in_place_lem m) (converted sheet Γ)

  pub converter_writes : Writes (read_as_max_lem sheet) (converts sheet m) (converting sheet m) m
  converter_writes =
      writes_call (in_place_lem m) (read_as_max_lem sheet)
      (convert_tests sheet (in_place_lem m))
      work
      (converts sheet m) refl
      (λ a. (
        λ _. unlined refl refl,
        (not-fit-many (resulting sheet former), many_do_not (resulting sheet former)),
        λ _. (λ _. unlined refl refl, short (length (converted sheet former)) (length m), λ _. tt),
      ))
      (λ Γ. (refl, refl))

  module _ (a : Accepts (read_as_max_lem sheet)) where
    pub converter-wrote : resulting sheet former ≤ L.rules → length (converted sheet former) ≤ length m
        → WroteText (converted sheet former) m (converting sheet m)
    converter-wrote few room =
        wrote (converted sheet former) m
        (call_works (refusing (in_place_lem m)) (read_as_max_lem sheet) (convert_tests sheet (in_place_lem m)) work
        former a
        (few-fit (resulting sheet former) few, (le-leb _ (length m) room, tt)))

    pub converter-many : L.rules < resulting sheet former
        → converting sheet m ≡ refusing (in_place_lem m) (without_line_lem C.TooManyRows)
    converter-many many =
        sym (call_fails (refusing (in_place_lem m)) (read_as_max_lem sheet) (convert_tests sheet (in_place_lem m)) work
        former a
        (without_line_lem C.TooManyRows)
        (inl (many_do_not (resulting sheet former) many, refl)))
