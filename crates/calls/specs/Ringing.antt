-- What the answer of the call means that writes the heaviest sheet for a line: no sheet with so many events, that
-- horizon and no signal keeps the solver longer.
use Rattle.std.specs.Prelude.{◌≡◌, ◌↔◌, List, [], ◌∷◌, ℕ, ◌≤◌, length, Ok, Err}
use Rattle.refusal.specs.declared.Refusal.{Refusal}
use Rattle.network.specs.Limits as L
use Rattle.network.specs.declared.Network.{Network}
use Rattle.heaviest.specs.Asks.{fewest, Asks}
use Rattle.heaviest.specs.RingText.{ring_text}
use Rattle.heaviest.specs.Heaviest.{Heaviest}
use Rattle.heaviest.specs.Reading.{reading}
use Rattle.heaviest.specs.Fault.{Fault}
use Rattle.calls.specs.Values.{Values, number_values}
use Rattle.calls.specs.Lent.{Lent, in_place_lem}
use Rattle.calls.specs.Calls.{ringing}
use Rattle.calls.specs.Answers.{Own, AnswersIntoBy, WroteInto}
use Rattle.calls.specs.Numbers.{too_short}

-- the line asks for as many events as Γ has, and its horizon
abbrev pub AsksAs : List ℕ → Network → Type 0
AsksAs line Γ = Asks line Γ.events Γ.horizon

-- the call's own refusal
abbrev pub rings : ℕ → List Own
rings lent = too_short lent (λ Γ. length (ring_text Γ.events Γ.horizon)) ∷ []

-- it refuses with the fault of the line, and else with 12 exactly where that holds
abbrev pub AnswersRing : List ℕ → List ℕ → Values ℕ → List ℕ → Type 0
AnswersRing line before v after = AnswersIntoBy (Fault line) (AsksAs line) (rings (length before)) before v after

-- and where there is room, it has written the heaviest sheet, and everything behind it is unaltered
abbrev pub WritesHeaviest : List ℕ → Lent → Values ℕ → List ℕ → Type 0
WritesHeaviest line m v after =
    (n h : ℕ) → Asks line n h → (f : List ℕ) × Heaviest n h f × (length f ≤ m.room → WroteInto f m v after)

pub record Ringing : Type 0 where
  -- a line is read exactly where it asks for a sheet, and else refused with its fault
  pub reads : (line : List ℕ) (n h : ℕ) → (reading line ≡ Ok (n, h)) ↔ Asks line n h
  pub faults : (line : List ℕ) (r : Refusal) → (reading line ≡ Err r) ↔ Fault line r
  -- of the call
  pub answers : (line m : List ℕ)
      → let l = ringing line m in AnswersRing line m (number_values l.answer) l.memory
  pub writes : (line m : List ℕ)
      → let l = ringing line m in WritesHeaviest line (in_place_lem m) (number_values l.answer) l.memory
  -- for every n from 2 to 16 and every H from 0 to 10,080 there is such a sheet
  pub heaviest : (n h : ℕ) → fewest ≤ n → n ≤ L.events → h ≤ L.horizon → Heaviest n h (ring_text n h)
