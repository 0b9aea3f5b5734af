-- An answer in the papers' numbers: "When an answer is an enum, a definition states this paper's number and values for
-- each of its cases" (01, What each place should look like). One shape for every call.
use Rattle.std.specs.Prelude.{ℕ, Result, Ok, Err}
use Rattle.refusal.specs.Refusal.{number_of}
use Rattle.refusal.specs.declared.Refusal.{Refusal}

-- what a call answers: what it tells, or why it refuses
abbrev pub OrRefusal : Type 0 → Type 0
OrRefusal A = Result A Refusal

pub record Values (A : Type 0) : Type 0 where
  pub number : ℕ
  pub line : ℕ
  pub value : A

module _ {A : Type 0} where
  -- a call that succeeds: 0 and 0, and what it tells
  abbrev pub done : A → Values A
  done a = record { number = 0; line = 0; value = a }

  -- one that refuses: the number and the line, beside what stands for nothing
  abbrev pub turned_away : A → Refusal → Values A
  turned_away nothing r = record { number = number_of r.cause; line = r.line; value = nothing }

  -- of an answer, where `nothing` is what a refusal tells
  abbrev pub values_of : A → OrRefusal A → Values A
  values_of nothing (Ok a) = done a
  values_of nothing (Err r) = turned_away nothing r

-- of a call that tells a number: how much was written, or the events due
abbrev pub number_values : OrRefusal ℕ → Values ℕ
number_values = values_of 0

-- refused with this number and line 0, by a call that tells a number
abbrev pub refused_as : ℕ → Values ℕ
refused_as n = record { number = n; line = 0; value = 0 }
