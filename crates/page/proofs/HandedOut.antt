-- Laws of what a call that writes a text does with the memory that it is lent. Assumes nothing.
use mathlib.Core.Path.{◌≡◌}
use mathlib.Core.Bool.{true, false}
use mathlib.Core.List.{List, ◌++◌}
use Prim.Native.Nat.{ℕ, ◌<◌, ◌≤◌}
use borrow.Author.Tests.{le-leb, lt-leb}
use Rattle.std.specs.Prelude.{Some, None}
use lib.ListN.{length, drop}
use Rattle.page.specs.HandedOut.{is_room, count_of, memory_after, HandedOut}

module _ (text before : List ℕ) where
  -- memory that is too short, and is left as it is
  pub handed-nothing : length before < length text → HandedOut text before before None
  unfolding count_of memory_after
  handed-nothing h =
      let short : is_room text before ≡ false = lt-leb _ _ h in
      record { answer = rw short; memory = rw short }

  -- the text at the front
  pub handed_all : length text ≤ length before
      → HandedOut text before (text ++ drop (length text) before) (Some (length text))
  unfolding count_of memory_after
  handed_all h =
      let room : is_room text before ≡ true = le-leb _ _ h in
      record { answer = rw room; memory = rw room }
