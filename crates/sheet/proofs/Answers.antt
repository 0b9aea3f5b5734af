-- What the reading answers of the whole sheet: it is refused with its fault, or each line holds its tests. Behind the
-- last section no byte may follow, and what is longer than the limit is not read. Assumes nothing.
use mathlib.Core.Path.{◌≡◌, refl, ap}
use mathlib.Core.Logic.{inl, inr}
use mathlib.Core.Bool.{Bool, true, false, not}
use mathlib.Core.List.{List, [], ◌∷◌}
use Prim.Native.Nat.{ℕ, ◌≤◌}
use borrow.Author.Tests.{ltb-false}
use lib.ListN.{length}
use Rattle.prelude.specs.Checks.{first_failing_lem, Hold}
use Rattle.refusal.specs.declared.Cause.TheVariants as C
use Rattle.refusal.specs.declared.Refusal.{Refusal}
use Rattle.std.specs.Prelude.{Result, Ok, Err}
use Rattle.network.specs.declared.Network.{Network}
use Rattle.sheet.specs.Reading.{longest, Progress, Go, stop_or, and_then, follows, read_end, answered, read}
use Rattle.sheet.specs.Place.{NoMore, tests}
use Rattle.sheet.specs.Fault.{FirstFault, Fault}
use Rattle.sheet.proofs.Whole.{to_cases, to_end, by_length}
use Rattle.sheet.proofs.Over.{all_hold}
use Rattle.sheet.proofs.Comes.{At, Comes, stops, sections_come}

module _ (sheet : List ℕ) where
  -- at its end: the first fault, or none
  abbrev Ends : Progress → Type 0
  Ends (Err r) = FirstFault sheet r
  Ends (Ok p) = (j : ℕ) → Hold (tests sheet j)

  end_comes : (Γ : Network) (at k : ℕ) → At sheet NoMore Γ at k → Ends (read_end sheet Γ at k)
  end_comes Γ at k a = by_bytes (follows sheet at) refl
    where
      by_bytes : (b : Bool) → follows sheet at ≡ b
          → Ends (stop_or k (first_failing_lem ((not b, C.TrailingBytes) ∷ [])) (Go Γ at k))
      by_bytes true e = stops sheet NoMore Γ at k a C.TrailingBytes (inl (ap not e, refl))
      by_bytes false e =
          all_hold sheet a.above
          (rw a.is (record { over = refl; end = ltb-false at (length sheet) e })) a.pass

  then_ends : (p : Progress) → Comes sheet (λ at. NoMore) p → Ends (and_then p (read_end sheet))
  then_ends (Err r) c = c
  then_ends (Ok p) c = end_comes p.network p.at p.line c

  -- of the whole sheet
  abbrev pub Answers : Result Network Refusal → Type 0
  Answers (Err r) = Fault sheet r
  Answers (Ok Γ) = (length sheet ≤ longest) × ((j : ℕ) → Hold (tests sheet j))

  pub answers : Answers (read sheet)
  answers =
      by_length sheet (λ p. Answers (answered p))
      (λ h. inl (h, refl))
      (λ h. ended (to_end sheet) h (then_ends (to_cases sheet) (sections_come sheet)))
    where
      ended : (p : Progress) → length sheet ≤ longest → Ends p → Answers (answered p)
      ended (Err r) l e = inr (l, e)
      ended (Ok p) l e = (l, e)
