-- What holds of the call that plays a table (02, points 1, 3 and 6), for every sheet, table, minute and list.
use Rattle.std.specs.Prelude.{◌≡◌, ◌↔◌, true, List, ℕ, ◌+◌, ◌^◌, ◌≤◌, ◌<◌}
use Rattle.network.specs.Build.{observation, scenarios}
use Rattle.network.specs.Scenario.{truth}
use Rattle.network.specs.Strategy.{reaction, known}
use Rattle.network.specs.Solution.{Indistinct, Solution}
use Rattle.network.specs.declared.Network.{Network}
use Rattle.dispatch.specs.Due.{is_due_lem}
use Rattle.dispatch.specs.History.{History, history_of}
use Rattle.dispatch.specs.Said.{said_from}
use Rattle.dispatch.specs.declared.Heard.{Heard}
use Rattle.calls.specs.Answers.{Reads}
use Rattle.calls.specs.Values.{Values, number_values}
use Rattle.calls.specs.Numbers.{minutes}
use Rattle.calls.specs.Play.{events_due_lem, events_due_on_lem}

-- the answer is the row of the case s at the minute m: of each event, whether it happens in s and is due; and no bit
-- behind the events
pub record RowAt (Γ : Network) (t : List ℕ) (m s : ℕ) (v : Values ℕ) : Type 0 where
  pub number : v.number ≡ 0
  pub line : v.line ≡ 0
  pub each : (u : ℕ) → u < Γ.events → truth v.value u ≡ is_due_lem Γ t m s u
  pub no_more : v.value < 2 ^ Γ.events

-- what v means as the answer for those who have heard hs, of a good table σ: with exactly what the case s has heard
-- before the minute, in any order, it is the row of s. `right` says that the table which is handed in has the sheet's
-- size
abbrev pub TellsRow : List ℕ → (Network → Type 0) → List ℕ → ℕ → List Heard → Values ℕ → Type 0
TellsRow sheet right σ m hs v =
    (Γ : Network) → Reads sheet Γ → right Γ → Solution Γ σ
    → (s : ℕ) → s < scenarios Γ → History Γ σ m hs s → RowAt Γ σ m s v

module _ (sheet t : List ℕ) where
  -- the answer's values
  abbrev pub answer : ℕ → List Heard → Values ℕ
  answer m hs = number_values (events_due_lem sheet t m hs)

  -- of a good table of the network Γ
  pub record Plays (Γ : Network) : Type 0 where
    -- playing s from minute 0 with what it has heard so far gives its row: each event that it has once, at its
    -- minute
    pub row : (m s : ℕ) → s < scenarios Γ → RowAt Γ t m s (answer m (history_of Γ t m s))
    -- and what it has heard so far is told by the answers before: a signal is heard when its event was due its
    -- reaction ago or earlier
    pub heard : (m s p : ℕ) → s < scenarios Γ → p < Γ.signals
        → (known Γ t s p m ≡ true)
        ↔ ((i : ℕ) × (i + reaction Γ p ≤ m) × (truth (answer i (history_of Γ t i s)).value (observation Γ p) ≡ true))
    -- "Two cases that have heard the same get the same events"
    pub same : (m : ℕ) (hs : List Heard) (s r u : ℕ) → s < scenarios Γ → r < scenarios Γ → u < Γ.events
        → History Γ t m hs s → History Γ t m hs r → is_due_lem Γ t m s u ≡ is_due_lem Γ t m r u
    -- "what a signal not yet heard will say changes nothing": cases that differ only in such signals have heard the
    -- same, and are answered the same
    pub unheard : (m s r : ℕ) → s < scenarios Γ → r < scenarios Γ → Indistinct Γ t s r m
        → ((hs : List Heard) → History Γ t m hs s ↔ History Γ t m hs r)
        × (events_due_lem sheet t m (history_of Γ t m s) ≡ events_due_lem sheet t m (history_of Γ t m r))

-- where it refuses stands in `Numbers`
pub record Playing : Type 0 where
  pub due : (sheet t : List ℕ) (m : ℕ) (hs : List Heard) → TellsRow sheet (minutes t) t m hs (answer sheet t m hs)
  pub plays : (sheet t : List ℕ) (Γ : Network) → Reads sheet Γ → Solution Γ t → Plays sheet t Γ
  -- the mask of a list says what the list does
  pub by_mask : (sheet t : List ℕ) (m : ℕ) (hs : List Heard)
      → events_due_on_lem sheet t m (said_from 0 hs) ≡ events_due_lem sheet t m hs
