-- What a label means, from its letters to the cases: which of its literals hold in a case, and so where the label does.
-- The signals of a sheet are counted in its order, and `truth s p` says whether signal p is true in case s.
use Rattle.std.specs.Prelude.{◌≡◌, List, ℕ, ◌<◌, length, get_or}
use Rattle.prelude.specs.Lists.{Each}
use Rattle.network.specs.Scenario.{truth}
use Rattle.names.specs.Names.{Literal}
use Rattle.layout.specs.Contents.{Signal, no_signal, no_literal}

module _ (xs : List Signal) (s : ℕ) where
  -- in case s the signal with the literal's letter has the truth that its sign asks
  pub record LiteralHolds (l : Literal) : Type 0 where
    pub signal : ℕ
    pub defined : signal < length xs
    pub letter : (get_or xs signal no_signal).letter ≡ l.letter
    pub asked : truth s signal ≡ l.value

  -- "`p!q` means p true and q false", and a label without letters holds in every case
  abbrev pub LabelHolds : List Literal → Type 0
  LabelHolds ls = Each LiteralHolds ls no_literal
