-- What the functions of the code answer that several calls share: the sheet of a call that is handed a table or lent
-- one, and the refusals in which the solver, the reader of listings and the player are answered.
use Rattle.std.specs.Prelude.{Bool, List, [], ◌∷◌, ℕ, eqb, leb, Ok, Err}
use Rattle.refusal.specs.Refusal.{refusal}
use Rattle.refusal.specs.declared.Cause.TheVariants as C
use Rattle.refusal.specs.declared.Refusal.{Refusal}
use Rattle.network.specs.Build.{cells}
use Rattle.network.specs.declared.Network.{Network}
use Rattle.solver.specs.declared.Inconsistent.{Inconsistent}
use Rattle.dispatch.specs.declared.Unanswered.{Unanswered}
use Rattle.dispatch.specs.declared.Unanswered.TheVariants as H
use Rattle.readback.specs.declared.Unread.{Unread}
use Rattle.readback.specs.declared.Unread.TheVariants as U
use Rattle.calls.specs.declared.Unsolved.{Unsolved}
use Rattle.calls.specs.Values.{OrRefusal}
use Rattle.calls.specs.Call.{without_line_lem, call}

-- the network of the sheet, for a call whose first test of its own is this
abbrev pub opened : List ℕ → (Network → Bool × Refusal) → OrRefusal Network
opened sheet first = call Err sheet (λ Γ. first Γ ∷ []) (λ Γ. Ok Γ)

-- for one that is handed so many minutes
abbrev pub handed_in_lem : List ℕ → ℕ → OrRefusal Network
handed_in_lem sheet n = opened sheet (λ Γ. (eqb n (cells Γ), without_line_lem C.WrongTableLength))

-- for one that is lent room for so many, and writes the whole table
abbrev pub lent_for_lem : List ℕ → ℕ → OrRefusal Network
lent_for_lem sheet n = opened sheet (λ Γ. (leb (cells Γ) n, without_line_lem C.BufferTooShort))

-- 13, with the count of rounds
abbrev pub unsolved : Inconsistent → Unsolved
unsolved none = record { refusal = without_line_lem C.Inconsistent; rounds = none.rounds }

-- 18 and 19 with the listing's line
abbrev pub of_unread : Unread → Refusal
of_unread (U.OtherForm l) = refusal C.OtherForm l
of_unread (U.NoMinute l) = refusal C.NoMinute l
of_unread U.TooShort = without_line_lem C.BufferTooShort

-- 15 and 16
abbrev pub of_unanswered : Unanswered → Refusal
of_unanswered H.Misnamed = without_line_lem C.MisnamedSignal
of_unanswered H.NeverHeard = without_line_lem C.NeverHeard
