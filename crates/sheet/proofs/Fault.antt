-- A sheet is refused exactly with its fault, and has one; its number and its line. Assumes nothing.
use mathlib.Core.Path.{◌≡◌, sym, ◌∙◌, ap}
use mathlib.Core.Logic.{◌⊎◌, inl, inr, ◌↔◌}
use mathlib.Core.Bool.{true, ◌&&◌, ◌||◌}
use mathlib.Core.List.{List}
use Prim.Native.Nat.{ℕ, suc, ◌≤◌, ◌<◌}
use native.Mathlib.Omega.{arith}
use borrow.Author.Tests.{leb-true}
use lib.Dec.{leb}
use lib.ListN.{length}
use Rattle.prelude.specs.Checks.{Hold}
use Rattle.prelude.proofs.Checks.{fails-not-hold, first_fails_unique}
use Rattle.prelude.proofs.Tests.{lt_or_ge, eq_or_ne, or-true, and-true}
use Rattle.std.specs.Prelude.{Result, Ok, Err}
use Rattle.refusal.specs.Refusal.{number_of, turn_of}
use Rattle.refusal.specs.declared.Cause.{Cause}
use Rattle.refusal.specs.declared.Refusal.{Refusal}
use Rattle.network.specs.declared.Network.{Network}
use Rattle.line.specs.Tests.{Tests}
use Rattle.sheet.specs.Reading.{longest, read}
use Rattle.sheet.specs.Place.{place, tests}
use Rattle.sheet.specs.Fault.{FirstFaultBy, FirstFault, Fails, FaultBy, Fault}
use Rattle.sheet.proofs.Order.{first_fails_lowest, is_of_line, first_fails_number, tests-are}
use Rattle.sheet.proofs.Over.{over_holds, lines-inside}
use Rattle.sheet.proofs.Answers.{Answers, answers}

-- whichever tests the lines have, there is one first fault: its line and its cause
module _ (tests_of : ℕ → Tests) where
  fault-lines : (r q : Refusal) (f : FirstFaultBy tests_of r) (g : FirstFaultBy tests_of q) → f.above < g.above → ⊥
  fault-lines r q f g l = fails-not-hold (tests_of f.above) r.cause f.fault (g.pass f.above l)

  fault-line : (r q : Refusal) (f : FirstFaultBy tests_of r) (g : FirstFaultBy tests_of q) → f.above ≡ g.above
  fault-line r q f g =
      elim (lt_or_ge f.above g.above) [
        | inl l ↦ absurd (fault-lines r q f g l)
        | inr l ↦ elim (eq_or_ne f.above g.above) [
          | inl e ↦ e
          | inr n ↦ absurd (fault-lines q r g f (omega arith))
        ]
      ]

  first-fault_unique : (r q : Refusal) → FirstFaultBy tests_of r → FirstFaultBy tests_of q → r ≡ q
  first-fault_unique r q f g =
      let same = fault-line r q f g in
      let line : r.line ≡ q.line = f.line ∙ ap suc same ∙ sym g.line in
      let cause : r.cause ≡ q.cause =
      first_fails_unique (tests_of g.above) r.cause q.cause (rw same at f.fault) g.fault in
      rw (line, cause)

  module _ (sheet : List ℕ) where
    pub fault_unique : (r q : Refusal) → FaultBy tests_of sheet r → FaultBy tests_of sheet q → r ≡ q
    fault_unique r q (inl f) (inl g) = f.1 ∙ sym g.1
    fault_unique r q (inl f) (inr g) = absurd (omega (arith, f.0, g.0))
    fault_unique r q (inr f) (inl g) = absurd (omega (arith, f.0, g.0))
    fault_unique r q (inr f) (inr g) = first-fault_unique r q f.1 g.1

    -- a sheet that is short and holds its tests has none
    pub no_fault : (r : Refusal) → length sheet ≤ longest → ((j : ℕ) → Hold (tests_of j)) → FaultBy tests_of sheet r
        → ⊥
    no_fault r short holds (inl f) = omega (arith, f.0)
    no_fault r short holds (inr f) = fails-not-hold (tests_of f.1.above) r.cause f.1.fault (holds f.1.above)

-- the numbers of a line's refusals, as two ranges
pub of_line : (n : ℕ) → is_of_line n ≡ true → (1 < n) × ((n ≤ 10) ⊎ ((20 ≤ n) × (n ≤ 22)))
of_line n e =
    let b = and-true (leb 2 n) (leb n 10 || (leb 20 n && leb n 22)) e in (
      leb-true 2 n b.0,
      elim (or-true (leb n 10) (leb 20 n && leb n 22) b.1) [
        | inl l ↦ inl (leb-true n 10 l)
        | inr l ↦ let w = and-true (leb 20 n) (leb n 22) l in inr (leb-true 20 n w.0, leb-true n 22 w.1)
      ],
    )

module _ (sheet : List ℕ) where
  -- so "on one line the lowest number" decides, but 22 directly after 3
  pub fault-lowest : (r : Refusal) (f : FirstFault sheet r) (d : Cause) → Fails (tests sheet f.above) d
      → turn_of r.cause ≤ turn_of d
  fault-lowest r f d g =
      first_fails_lowest 0 (tests sheet f.above) r.cause d (tests-are sheet f.above).0 f.fault g

  -- the number of a fault that has a line is from 2 to 10, or from 20 to 22
  pub first-fault-range : (r : Refusal) → FirstFault sheet r
      → let n = number_of r.cause in
      (1 < n) × ((n ≤ 10) ⊎ ((20 ≤ n) × (n ≤ 22)))
  first-fault-range r f =
      of_line (number_of r.cause)
      (first_fails_number is_of_line (tests sheet f.above) r.cause (tests-are sheet f.above).1 f.fault)

  -- a fault stands at most one line behind as many lines as the sheet has bytes
  pub first-fault-near : (r : Refusal) → FirstFault sheet r → r.line ≤ suc (length sheet)
  first-fault-near r f =
      elim (lines-inside sheet f.above f.pass) [
        | inl i ↦ omega (arith, i.0, i.1, f.line)
        | inr o ↦ fails-not-hold (tests sheet f.above) r.cause f.fault
            (over_holds sheet (place sheet f.above) o)
      ]

-- a sheet is refused with its fault and with no other refusal
pub refused_iff : (sheet : List ℕ) (r : Refusal) → (read sheet ≡ Err r) ↔ Fault sheet r
refused_iff sheet r = (λ e. rw e at (answers sheet), λ f. by-answer (read sheet) (answers sheet) f)
  where
    by-answer : (o : Result Network Refusal) → Answers sheet o → Fault sheet r → o ≡ Err r
    by-answer (Err q) a f = ap Err (fault_unique (tests sheet) sheet q r a f)
    by-answer (Ok Γ) a f = absurd (no_fault (tests sheet) sheet r a.0 a.1 f)
