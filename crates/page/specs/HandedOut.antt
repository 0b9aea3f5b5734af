-- What a call that writes a text does with the memory that it is lent (01, Refused sheets and calls): "the written
-- part has exactly its stated contents and everything behind it is unaltered", and memory that is too short keeps all
-- its contents.
use Rattle.std.specs.Prelude.{◌≡◌, Bool, cond, List, ◌++◌, ℕ, leb, length, drop, Option, Some, None}

module _ (text before : List ℕ) where
  -- the text is no longer than the memory
  abbrev pub is_room : Bool
  is_room = leb (length text) (length before)

  -- how many bytes were written, or none where the memory is too short
  unfoldable pub count_of : Option ℕ
  count_of = cond is_room (Some (length text)) None

  -- the memory at the end
  unfoldable pub memory_after : List ℕ
  memory_after = cond is_room (text ++ drop (length text) before) before

  pub record HandedOut (after : List ℕ) (r : Option ℕ) : Type 0 where
    pub answer : r ≡ count_of
    pub memory : after ≡ memory_after
