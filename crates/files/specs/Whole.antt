-- What reading as far as there is room, and writing a whole text, do to the bytes that a reader has left and a writer
-- holds, where those are known.
use Rattle.std.specs.Prelude.{◌≡◌, List, [], ℕ, take, drop, Option, Some, IfSome, Result, Ok, Err, MatchResult}
use Rattle.std.specs.Io.KnownBytes.{Appends}

-- the bytes that a file has left, and none where it could not be opened
abbrev pub opened_remaining : {R E : Type 0} → (R → Option (List ℕ)) → Result R E → Option (List ℕ)
opened_remaining remaining (Ok file) = remaining file
opened_remaining remaining (Err e) = Some []

-- of a reader that had `old`, n bytes were read into the memory: the first that it had, as many as there is room for
abbrev pub Fills : ℕ → Option (List ℕ) → ℕ → List ℕ → Type 0
Fills room old n memory = IfSome old (λ bytes. take n memory ≡ take room bytes)

-- and it has those behind them left
abbrev pub GivesFirst : ℕ → Option (List ℕ) → Option (List ℕ) → Type 0
GivesFirst room old new = IfSome old (λ bytes. new ≡ Some (drop room bytes))

-- all of a text was written, or where a write failed, as many of its first bytes as were written before
abbrev pub Prints : {E : Type 0} → Option (List ℕ) → Option (List ℕ) → Result (Unit {0}) E → List ℕ
    → Type 0
Prints old new r text = MatchResult r (λ _. Appends old new text) (λ _. (n : ℕ) × Appends old new (take n text))
