-- What a public call can answer, in one shape for every call (01, Refused sheets and calls, in checking order): the
-- sheet's own refusal comes first, then those of the call, each where its cause holds and none before it does.
use Rattle.std.specs.Prelude.{◌≡◌, ◌⊎◌, ◌↔◌, Bool, true, ◌&&◌, ◌||◌, List, [], ◌∷◌, ℕ, suc, ◌≤◌, leb, length}
use Rattle.refusal.specs.declared.Refusal.{Refusal}
use Rattle.network.specs.declared.Network.{Network}
use Rattle.sheet.specs.Reading.{longest, network_of, Accepts}
use Rattle.sheet.specs.Fault.{Fault}
use Rattle.calls.specs.Values.{OrRefusal, Values, done, turned_away, number_values}
use Rattle.calls.specs.Call.{Left}
use Rattle.calls.specs.Lent.{Lent, in_place_lem}

-- which refusals name a line: 2 to 10 and 20 to 22 one of the sheet, 18 and 19 one of the listing; "Lines are 0 for
-- refusals 1 and 11 to 13", and for each of document 02 "whose request names no line"
abbrev pub names_line : ℕ → Bool
names_line n = (leb 2 n && leb n 10) || (leb 18 n && leb n 22)

-- no refusal, or one of the sheet's own
abbrev pub OfSheet : ℕ → Type 0
OfSheet n = (n ≤ 10) ⊎ ((20 ≤ n) × (n ≤ 22))

-- the sheet is accepted, which it is exactly where it keeps every rule of its layout (`accepted` in `Demands`), and its
-- network, which holds what it contains (`contains`), is Γ
pub record Reads (sheet : List ℕ) (Γ : Network) : Type 0 where
  pub accepted : Accepts sheet
  pub network : network_of sheet ≡ Γ

-- a refusal of a call's own: its number, and its cause, said of the sheet's network
pub record Own : Type 1 where
  pub number : ℕ
  pub cause : Network → Type 0

-- each number comes exactly where its cause holds, once no cause before it does; 0 where none holds
abbrev pub Exactly : List Own → Network → ℕ → Type 0
Exactly [] Γ n = n ≡ 0
Exactly (o ∷ os) Γ n = ((n ≡ o.number) ↔ o.cause Γ) × ((o.cause Γ → ⊥) → Exactly os Γ n)

-- n is the number of one of them
abbrev pub OneOf : List Own → ℕ → Type 0
OneOf [] n = ⊥
OneOf (o ∷ os) n = (n ≡ o.number) ⊎ OneOf os n

-- of the values that a call with these refusals answers, where `nothing` is what a refusal tells: by what a fault of
-- the sheet is, and what it is for the sheet to be read as a network
pub record AnswersBy (Faulty : Refusal → Type 0) (ReadAs : Network → Type 0) (own : List Own) {A : Type 0}
    (nothing : A) (v : Values A) : Type 0 where
  -- 0, a number from 1 to 10 or from 20 to 22, or one of the call's own
  pub numbers : OfSheet v.number ⊎ OneOf own v.number
  -- a line from 1 on exactly for the refusals that name one; no line is further on than the longest sheet allows
  pub lines : (1 ≤ v.line) ↔ (names_line v.number ≡ true)
  pub near : v.line ≤ suc longest
  -- the fault of a sheet is the answer of every call
  pub at_fault : (r : Refusal) → Faulty r → v ≡ turned_away nothing r
  -- of a sheet with none, the call's own refusals decide
  pub exactly : (Γ : Network) → ReadAs Γ → Exactly own Γ v.number
  pub refusal_empty : (v.number ≡ 0 → ⊥) → v.value ≡ nothing

-- for a sheet of today
abbrev pub Answers : List ℕ → List Own → {A : Type 0} → A → Values A → Type 0
Answers sheet own nothing v = AnswersBy (Fault sheet) (Reads sheet) own nothing v

-- of a call that writes into lent memory, which held `before` and then holds `after`: it answers so, and "a refusal
-- leaves each lent buffer unaltered"
pub record AnswersIntoBy (Faulty : Refusal → Type 0) (ReadAs : Network → Type 0) (own : List Own) (before : List ℕ)
    (v : Values ℕ) (after : List ℕ) : Type 0 where
  pub answers : AnswersBy Faulty ReadAs own 0 v
  pub keeps : (v.number ≡ 0 → ⊥) → after ≡ before

abbrev pub AnswersInto : List ℕ → List Own → List ℕ → Values ℕ → List ℕ → Type 0
AnswersInto sheet own before v after = AnswersIntoBy (Fault sheet) (Reads sheet) own before v after

-- such a call is defined to leave this
abbrev pub Writes : List ℕ → List Own → Left (OrRefusal ℕ) → List ℕ → Type 0
Writes sheet own l before = AnswersInto sheet own before (number_values l.answer) l.memory

-- this text was written into the memory that was lent: "the written part has exactly its stated contents and everything
-- behind it is unaltered"
pub record WroteInto (text : List ℕ) (m : Lent) (v : Values ℕ) (after : List ℕ) : Type 0 where
  pub answer : v ≡ done (length text)
  pub memory : after ≡ m.after text

-- a call is defined to write it into memory that is lent as it is
abbrev pub WroteText : List ℕ → List ℕ → Left (OrRefusal ℕ) → Type 0
WroteText text m l = WroteInto text (in_place_lem m) (number_values l.answer) l.memory
