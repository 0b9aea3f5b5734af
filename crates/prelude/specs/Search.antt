-- Bounded search: the first index at which something answers, lowest first. Each "the first .. ends the search" of
-- document 01 is one of these.
use Rattle.std.specs.Prelude.{Bool, true, false, ℕ, zero, suc}
use Rattle.std.proofs.Math.Option.{Option, none, some}

module _ {A : Type 0} where
  -- the first answer, else the second
  abbrev pub or_else : Option A → Option A → Option A
  or_else none b = b
  or_else (some a) b = some a

  -- f's answer at the lowest of the n indices from i on that has one
  abbrev pub first_from : ℕ → ℕ → (ℕ → Option A) → Option A
  first_from i zero f = none
  first_from i (suc n) f = or_else (f i) (first_from (suc i) n f)

  -- f's answer at the lowest index below n that has one
  abbrev pub first_below : ℕ → (ℕ → Option A) → Option A
  first_below n f = first_from 0 n f

  -- a, where the test holds
  abbrev pub when : Bool → A → Option A
  when true a = some a
  when false a = none

  -- a, where the test fails
  abbrev pub unless : Bool → A → Option A
  unless true a = none
  unless false a = some a

  -- whether there is an answer
  abbrev pub answers : Option A → Bool
  answers none = false
  answers (some a) = true
