-- Searches in rows: of one loop, that asks each row for its answer (`row_none`, `row_some`); and the labelled loops. A
-- labelled loop's invariant is `Seeking f n i found`: its search has come to i, and nothing was found.
-- It goes on past an index (`seeking_on`) or past a whole search within (`past_row`), ends with nothing
-- (`nothing-found`), and is left from inside with what the inner search hit (`row_hit`). Assumes nothing.
use mathlib.Core.Path.{◌≡◌, sym, ◌∙◌, ap}
use mathlib.Core.Option.{Option, none, some}
use Prim.Native.Nat.{ℕ, ◌+◌, ◌≤◌, ◌<◌}
use Rattle.std.specs.declared.option.Option.{Option as Answer}
use Rattle.std.specs.declared.option.Option.TheVariants.{Some, None}
use Rattle.prelude.specs.Search.{first_below}
use Rattle.prelude.specs.Options.{option_of}
use Rattle.prelude.proofs.Options.{option_of-some, option_of-none}
use Rattle.prelude.proofs.Search.{Searching, searching_start, searching_on, found_at, found_nothing}
use Rattle.checker.specs.declared.Breach.{Breach}

-- a search in rows: what was found in the row of i is f's answer there
module _ {f : ℕ → Option Breach} {n i : ℕ} {found : Answer Breach} (here : Searching f n i) (below : i < n)
    (row : found ≡ option_of (f i)) where
  pub row_none : found ≡ None → Searching f n (i + 1)
  row_none e = searching_on here below (option_of-none _ (sym row ∙ e))

  pub row_some : (b : Breach) → found ≡ Some b → Some b ≡ option_of (first_below n f)
  row_some b e = ap option_of (sym (found_at here b below (option_of-some _ _ (sym row ∙ e))))

pub record Seeking (f : ℕ → Option Breach) (n i : ℕ) (found : Answer Breach) : Type 0 where
  pub search : Searching f n i
  pub nothing : found ≡ None

pub seeking_start : (f : ℕ → Option Breach) (n : ℕ) {found : Answer Breach} → found ≡ None → Seeking f n 0 found
seeking_start f n e = record { search = searching_start f n; nothing = e }

module _ {f : ℕ → Option Breach} {n i : ℕ} {found : Answer Breach} (here : Seeking f n i found) where
  pub seeking_on : i < n → f i ≡ none → Seeking f n (i + 1) found
  seeking_on h e = record { search = searching_on here.search h e; nothing = here.nothing }

  pub nothing-found : n ≤ i → found ≡ option_of (first_below n f)
  nothing-found h = here.nothing ∙ ap option_of (sym (found_nothing here.search h))

  pub hit : (b : Breach) → i < n → f i ≡ some b → first_below n f ≡ some b
  hit b h e = found_at here.search b h e

-- where f's answer at i is that of a search within
module _ {f g : ℕ → Option Breach} {n m i k : ℕ} {before found : Answer Breach} (here : Seeking f n i before)
    (row : Seeking g m k found) (within : f i ≡ first_below m g) where
  pub past_row : i < n → m ≤ k → Seeking f n (i + 1) found
  past_row h e =
      record { search = searching_on here.search h (within ∙ found_nothing row.search e); nothing = row.nothing }

  pub row_hit : (b : Breach) → i < n → k < m → g k ≡ some b → first_below n f ≡ some b
  row_hit b h l e = hit here b h (within ∙ hit row b l e)
