-- A public call: the sheet's own refusal comes first, then the call's own tests in checking order, each with the
-- refusal of its failure; where all of them hold, its work (01, Refused sheets and calls). And what a call that writes
-- leaves in the memory that it is lent.
use Rattle.std.specs.Prelude.{◌≡◌, Bool, List, ℕ, Result, Ok, Err}
use Rattle.std.proofs.Math.Option.{Option, none, some}
use Rattle.prelude.specs.Checks.{first_failing_lem}
use Rattle.refusal.specs.Refusal.{refusal}
use Rattle.refusal.specs.declared.Cause.{Cause}
use Rattle.refusal.specs.declared.Refusal.{Refusal}
use Rattle.network.specs.declared.Network.{Network}
use Rattle.sheet.specs.Reading.{read}

-- the line is 0 for refusals 11 to 13, and for those of document 02 that name none
abbrev pub without_line_lem : Cause → Refusal
without_line_lem c = refusal c 0

-- a call's own tests, each with the refusal of its failure
abbrev pub Tests : Type 0
Tests = List (Bool × Refusal)

module _ {A : Type 0} (refuse : Refusal → A) where
  -- the answer by the first test that fails, where one does: its refusal, or what the work gives
  abbrev pub answer_by : Option Refusal → A → A
  answer_by none a = a
  answer_by (some r) a = refuse r

  -- by what is read, of a sheet its network, or its own refusal
  abbrev pub call_on : {B : Type 0} → (B → Tests) → (B → A) → Result B Refusal → A
  call_on tests work (Ok b) = answer_by (first_failing_lem (tests b)) (work b)
  call_on tests work (Err r) = refuse r

  abbrev pub call : List ℕ → (Network → Tests) → (Network → A) → A
  call sheet tests work = call_on tests work (read sheet)

-- an answer, and what is then in the lent memory
pub record Left (A : Type 0) : Type 0 where
  pub answer : A
  pub memory : List ℕ

-- the promise of a call that writes: its answer, and the lent memory as it returns
pub record Leaves {A : Type 0} (l : Left A) (r : A) (m : List ℕ) : Type 0 where
  pub answer : r ≡ l.answer
  pub memory : m ≡ l.memory
