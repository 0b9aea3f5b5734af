-- Playing a table: what is due at a minute, for those who have heard a list of signals (02, point 1). The sheet's own
-- refusal comes first, then 11, then those of its own.
use Rattle.std.specs.Prelude.{Bool, true, false, List, [], ◌∷◌, ℕ, Ok, Err, Result}
use Rattle.refusal.specs.declared.Cause.TheVariants as C
use Rattle.network.specs.declared.Network.{Network}
use Rattle.checker.specs.Verdict.{verdict}
use Rattle.checker.specs.declared.Verdict.{Verdict}
use Rattle.checker.specs.declared.Verdict.TheVariants.{Pass, Breach as Breached}
use Rattle.dispatch.specs.Due.{due}
use Rattle.dispatch.specs.Said.{due_on}
use Rattle.dispatch.specs.declared.Heard.{Heard}
use Rattle.dispatch.specs.declared.Unanswered.{Unanswered}
use Rattle.dispatch.specs.declared.Unanswered.TheVariants as P
use Rattle.calls.specs.Values.{OrRefusal}
use Rattle.calls.specs.Call.{without_line_lem, Tests, call}
use Rattle.calls.specs.Lent.{Handed, as_minutes}
use Rattle.calls.specs.Calls.{right_length}

-- what the player says of what has been heard
abbrev pub named : Result ℕ Unanswered → Bool
named (Ok e) = true
named (Err P.Misnamed) = false
named (Err P.NeverHeard) = true

abbrev pub ever_heard : Result ℕ Unanswered → Bool
ever_heard (Ok e) = true
ever_heard (Err P.Misnamed) = true
ever_heard (Err P.NeverHeard) = false

abbrev pub events_of : Result ℕ Unanswered → ℕ
events_of (Ok e) = e
events_of (Err P.Misnamed) = 0
events_of (Err P.NeverHeard) = 0

-- a pass is a good table
abbrev pub is_pass : Verdict → Bool
is_pass Pass = true
is_pass (Breached b) = false

-- "14, the table does not pass the judge; 15, a letter in the list is undefined or stands twice; 16, no case has heard
-- exactly this list", by what the player says
abbrev pub playing_tests : Handed → (Network → Result ℕ Unanswered) → Network → Tests
playing_tests t said Γ =
    right_length t Γ
    ∷ (is_pass (verdict Γ t.minutes), without_line_lem C.TableFails)
    ∷ (named (said Γ), without_line_lem C.MisnamedSignal)
    ∷ (ever_heard (said Γ), without_line_lem C.NeverHeard)
    ∷ []

-- the events of a table that are due
abbrev pub playing : List ℕ → Handed → (Network → Result ℕ Unanswered) → OrRefusal ℕ
playing sheet t said = call Err sheet (playing_tests t said) (λ Γ. Ok (events_of (said Γ)))

-- the events of a table t due at the minute m, for those who have heard hs
unfoldable pub events_due_lem : List ℕ → List ℕ → ℕ → List Heard → OrRefusal ℕ
events_due_lem sheet t m hs = playing sheet (as_minutes t) (λ Γ. due Γ t m hs)

-- the same by what a mask says
unfoldable pub events_due_on_lem : List ℕ → List ℕ → ℕ → ℕ → OrRefusal ℕ
events_due_on_lem sheet t m x = playing sheet (as_minutes t) (λ Γ. due_on Γ t m x)
