-- The printed listing (01, The printed listing): a line of names, then a line of times for each scenario. It is defined
-- over texts in the places of the times, so that one definition serves what is written and what is read back.
use Rattle.std.specs.Prelude.{true, false, cond, List, ◌++◌, ℕ, ◌^◌, eqb}
use Prim.Native.Char.{code}
use Rattle.prelude.specs.Bounded.{tabulate}
use Rattle.prelude.specs.Bytes.{ascii}
use Rattle.text.specs.Lines.{line}
use Rattle.text.specs.Decimal.{decimal}
use Rattle.page.specs.Joined.{join_from}
use Rattle.network.specs.Limits as L
use Rattle.network.specs.Build.{name_of_lem}
use Rattle.network.specs.Scenario.{truth}
use Rattle.network.specs.Strategy.{time}
use Rattle.network.specs.declared.Network.{Network}

-- "one `T` or `F` per signal in sheet order (`-` if there is none)"
abbrev pub scenario_text : ℕ → ℕ → List ℕ
scenario_text k s =
    elim (eqb k 0) [
      | true ↦ ascii "-"
      | false ↦ tabulate k (λ p. cond (truth s p) (code "T") (code "F"))
    ]

-- "`case`, then a comma and a name for each event"
abbrev pub header : List ℕ → Network → List ℕ
header sheet Γ = line (ascii "case") (tabulate Γ.events (name_of_lem Γ sheet))

-- what a cell holds, as it is printed: a minute in decimal; of 65,535, which stands where the event does not happen,
-- "that number is printed `-`" (02, point 6)
abbrev pub time_text : ℕ → List ℕ
time_text v = cond (eqb v L.blank) (ascii "-") (decimal v)

-- a listing over any texts in the places of its minutes, by scenario and event; it has k signals and n events
module _ (k n : ℕ) (texts : ℕ → ℕ → List ℕ) where
  -- the truths of s, "then a comma and a minute per event"
  abbrev pub line_over : ℕ → List ℕ
  line_over s = line (scenario_text k s) (tabulate n (texts s))

  -- the header, and the lines of the first m scenarios
  abbrev pub lines_over : List ℕ → ℕ → List ℕ
  lines_over head m = head ++ join_from 0 m line_over

  abbrev pub listing_over : List ℕ → List ℕ
  listing_over head = lines_over head (2 ^ k)

-- the texts of a strategy's times
abbrev pub time_texts : ℕ → List ℕ → ℕ → ℕ → List ℕ
time_texts n σ s u = time_text (time n σ s u)

unfoldable pub listing : List ℕ → Network → List ℕ → List ℕ
listing sheet Γ σ = listing_over Γ.signals Γ.events (time_texts Γ.events σ) (header sheet Γ)
