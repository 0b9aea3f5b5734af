-- What a program does, from what it reads to what it prints.
use Rattle.std.specs.Prelude.{◌≡◌, ◌⊎◌, List, ℕ, suc, take, Option, Result, OnErr}
use Rattle.std.specs.Io.KnownBytes.{Keeps}
use Rattle.sheet.specs.Reading.{longest}
use Rattle.calls.specs.Values.{OrRefusal}
use Rattle.calls.specs.Call.{Left}
use Rattle.files.specs.Whole.{GivesFirst, Prints}

-- what a call answered, and the memory that it left
abbrev pub left : OrRefusal ℕ → List ℕ → Left (OrRefusal ℕ)
left answer memory = record { answer = answer; memory = memory }

-- of what a reader had, all was read that tells whether it is too long
abbrev pub IsRead : Option (List ℕ) → Option (List ℕ) → Type 0
IsRead old new = GivesFirst (suc longest) old new

-- as far as a program reads, these are the same
abbrev pub BeginAlike : List ℕ → List ℕ → Type 0
BeginAlike a b = take (suc longest) a ≡ take (suc longest) b

-- where the program answers with an error, nothing was written, or what it reads was read
abbrev pub ReadsFirst : {E : Type 0} → Option (List ℕ) → Option (List ℕ) → Result (Unit {0}) E → Type 0 → Type 0
ReadsFirst old new r read = OnErr r (Keeps old new ⊎ read)

-- a text that has this meaning is what is printed
abbrev pub PrintsWhat : {E : Type 0} → (List ℕ → Type 0) → Option (List ℕ) → Option (List ℕ) → Result (Unit {0}) E
    → Type 0
PrintsWhat Means old new r = (text : List ℕ) × Means text × Prints old new r text
