-- What a line asks for, told without a reader: two numbers as they are written, one comma between them, and a line feed
-- behind them; n from 2 to 16, and h from 0 to 10,080.
use Rattle.std.specs.Prelude.{◌≡◌, List, [], ◌∷◌, ℕ, ◌≤◌}
use Rattle.text.specs.Lines.{line}
use Rattle.text.specs.Decimal.{decimal}
use Rattle.network.specs.Limits as L

-- with one event none is left to go around
abbrev pub fewest : ℕ
fewest = 2

pub record Asks (text : List ℕ) (n h : ℕ) : Type 0 where
  pub some : fewest ≤ n
  pub few : n ≤ L.events
  pub horizon : h ≤ L.horizon
  pub written : text ≡ line (decimal n) (decimal h ∷ [])
